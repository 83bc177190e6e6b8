use Rattle.std.proofs.Common.{ap, arith, sym, ◌∙◌}
use Rattle.field.specs.Field.{F, ◌⊙◌, val_of}
use Rattle.series.specs.Series.{K-⊠-at}
use Rattle.series.specs.Degree.{below-K-⊠}
use Rattle.series.specs.Array.{filled_none, filled_more}
use Rattle.polynomial.specs.Polynomial.{poly-at, poly-filled}
use Rattle.polynomial.proofs.scale_by.Goals as goal

pub loop-i-init : goal.loop-i-init
loop-i-init g c _ _ = filled_none 49 _

pub loop-i-preserved : goal.loop-i-preserved
loop-i-preserved g c a by =
    filled_more _ (c.loop-i.invariant a by) (omega arith)
    (val_of _ ∙ c.times.ensures a by
    ∙ sym (K-⊠-at _ _ _ ∙ ap (λ (s : F). a ⊙ s) (poly-at _ _ (omega arith) ∙ val_of _)))

pub returns : goal.returns
returns g c a by =
    poly-filled _ (c.loop-i.invariant a by) c.loop-i-test.false (below-K-⊠ _ a _ c.extent-i-end.ensures.0)
