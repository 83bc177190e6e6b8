-- The first i coefficients stand.
use Rattle.std.proofs.Common.{length, ◌≡◌}
use Rattle.series.specs.Shift.{cut}
use Rattle.polynomial.specs.Polynomial.{poly}
use Rattle.settle.specs.PositionsExponent.{symbols}
use Rattle.settle.proofs.positions.exponents.Given as goal

abbrev pub invariant-loop-i : goal.invariant-loop-i
invariant-loop-i l = (length l.out ≡ 32) × (symbols l.out ≡ cut l.i (poly l.f))
