-- The two products, added; a product by zero is not made.
use Rattle.std.proofs.Common.{ap₂, refl, sym, ◌∙◌}
use Rattle.series.specs.Series.{◌⊞◌, ⊞-zero}
use Rattle.polynomial.specs.Polynomial.{none-⊠}
use Rattle.polynomial.proofs.combine.Goals as goal

pub returns-then-is_zero : goal.returns-then-is_zero
returns-then-is_zero c =
    c.scale-p.ensures
    ∙ sym (ap₂ ◌⊞◌ refl (none-⊠ _ _ _ c.is_zero.ensures c.if-is_zero.true) ∙ ⊞-zero _)

pub returns : goal.returns
returns c = c.sum.ensures ∙ ap₂ ◌⊞◌ c.scale-p.ensures c.scale-q.ensures
