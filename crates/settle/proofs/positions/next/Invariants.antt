-- The first i terms are those at the next position.
use Rattle.std.proofs.Common.{length, ◌≡◌}
use Rattle.series.specs.Shift.{cut}
use Rattle.settling.specs.Locator.{W}
use Rattle.settle.specs.PositionsTerm.{terms}
use Rattle.settle.specs.PositionsExponent.{symbols}
use Rattle.settle.proofs.positions.next.Given as goal

abbrev pub invariant-loop-i : goal.invariant-loop-i
invariant-loop-i l = (length l.out ≡ 32) × (symbols l.out ≡ cut l.i (terms (W 1) (symbols l.e)))
