-- The first i stand; those before 48 are zero.
use Rattle.std.proofs.Common.{length, ◌≡◌, ◌≤◌}
use Rattle.series.specs.Shift.{cut}
use Rattle.series.specs.Array.{bytes}
use Rattle.polynomial.specs.Polynomial.{row}
use Rattle.polynomial.specs.SyndromesReversed.{reversed}
use Rattle.polynomial.proofs.syndromes.reversed.Given as goal

abbrev pub invariant-loop-i : goal.invariant-loop-i
invariant-loop-i l = (48 ≤ l.i) × (l.i ≤ 96) × (length l.down ≡ 144) × (bytes l.down ≡ cut l.i (reversed 95 (row l.s)))
