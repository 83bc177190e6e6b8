-- The first i steps stand.
use Rattle.std.proofs.Common.{length, ◌≡◌}
use Rattle.series.specs.Shift.{cut}
use Rattle.settle.specs.PositionsExponent.{symbols, Steps}
use Rattle.settle.proofs.positions.steps.Given as goal

abbrev pub invariant-loop-i : goal.invariant-loop-i
invariant-loop-i l = (length l.out ≡ 32) × Steps (cut l.i (symbols l.e)) l.out
