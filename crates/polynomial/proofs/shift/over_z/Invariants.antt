-- Entry i gets f[i + 1]. The top entry stays zero.
use Rattle.series.specs.Series.{tail}
use Rattle.series.specs.Array.{Filled}
use Rattle.polynomial.specs.Polynomial.{poly}
use Rattle.polynomial.proofs.shift.over_z.Given as goal

abbrev pub invariant-loop-i : goal.invariant-loop-i
invariant-loop-i l = Filled 49 l.i (tail (poly l.f)) l.out
