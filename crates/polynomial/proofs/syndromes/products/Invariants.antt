-- Entry q gets f[q]·t[at + q]; past the extent f is zero.
use Rattle.std.proofs.Common.{◌+◌}
use Rattle.field.specs.Field.{◌⊙◌}
use Rattle.series.specs.Array.{bytes, Filled}
use Rattle.polynomial.specs.Polynomial.{poly}
use Rattle.polynomial.proofs.syndromes.products.Given as goal

abbrev pub invariant-loop-q : goal.invariant-loop-q
invariant-loop-q l = Filled 49 l.q (λ i. poly l.f i ⊙ bytes l.t (l.at + i)) l.out
