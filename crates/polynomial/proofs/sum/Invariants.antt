-- Entry i gets f[i] + g[i], coefficient i of the sum.
use Rattle.series.specs.Series.{◌⊞◌}
use Rattle.series.specs.Array.{Filled}
use Rattle.polynomial.specs.Polynomial.{poly}
use Rattle.polynomial.proofs.sum.Given as goal

abbrev pub invariant-loop-i : goal.invariant-loop-i
invariant-loop-i l = Filled 49 l.i (poly l.f ⊞ poly l.g) l.out
