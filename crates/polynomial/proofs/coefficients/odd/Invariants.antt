-- The first 2i + 1 coefficients stand: the next one is passed over.
use Rattle.std.proofs.Common.{length, ◌+◌, ◌*◌, ◌≡◌}
use Rattle.series.specs.Shift.{cut}
use Rattle.series.specs.Value.{odd}
use Rattle.series.specs.Array.{bytes}
use Rattle.polynomial.specs.Polynomial.{poly}
use Rattle.polynomial.proofs.coefficients.odd.Given as goal

abbrev pub invariant-loop-i : goal.invariant-loop-i
invariant-loop-i l = (length l.out ≡ 49) × (bytes l.out ≡ cut (2 * l.i + 1) (odd (poly l.f)))
