use Rattle.std.proofs.Common.{ap₂, sym, ◌∙◌}
use Rattle.field.specs.Field.{◌⊕◌}
use Rattle.series.specs.Series.{⊞-at}
use Rattle.series.specs.Degree.{below-⊞}
use Rattle.series.specs.Array.{filled_none, filled_more}
use Rattle.polynomial.specs.Polynomial.{poly-at, below-poly, poly-filled}
use Rattle.polynomial.proofs.sum.Goals as goal

pub loop-i-init : goal.loop-i-init
loop-i-init c = filled_none 49 _

pub loop-i-preserved : goal.loop-i-preserved
loop-i-preserved c =
    let l = c.loop-i-test.true in
    filled_more _ c.loop-i.invariant l
    (c.sum.ensures ∙ sym (⊞-at _ _ _ ∙ ap₂ ◌⊕◌ (poly-at _ _ l) (poly-at _ _ l)))

pub returns : goal.returns
returns c = poly-filled 49 c.loop-i.invariant c.loop-i-test.false (below-⊞ 49 _ _ (below-poly _) (below-poly _))
