-- Entry i gets c·f[i], coefficient i of the product; past the extent f is zero.
use Rattle.field.specs.Field.{F}
use Rattle.series.specs.Series.{K, ◌⊠◌}
use Rattle.series.specs.Array.{Filled}
use Rattle.polynomial.specs.Polynomial.{poly}
use Rattle.polynomial.proofs.scale_by.Given as goal

abbrev pub invariant-loop-i : goal.invariant-loop-i
invariant-loop-i g l = (c : F) → g.M.Multiplier.is_by l.m c → Filled 49 l.i (K c ⊠ poly l.f) l.out
