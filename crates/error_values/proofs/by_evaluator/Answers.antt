-- The formula, factor by factor.
use Rattle.std.proofs.Common.{ap, ap₂, ℕ, ◌∙◌}
use Rattle.field.specs.Field.{F, ◌⊙◌, inv, pow-one}
use Rattle.series.specs.Series.{Series}
use Rattle.polynomial.specs.Polynomial.{row}
use Rattle.settling.specs.Twist.{inverse_multiplier}
use Rattle.settling.specs.ErrorValue.{Ω_at, odd_at, by_evaluator}
use Rattle.error_values.proofs.by_evaluator.Goals as goal

pub returns : goal.returns
unfolding by_evaluator
returns c r f m h =
    let given = c.args in
    let n-is = c.iterations.ensures in
    let Λ-is = c.locator-locator.ensures r f m h in
    c.untwisted.ensures
    ∙ ap (λ (x : F). inverse_multiplier given.first given.p ⊙ x)
    (c.product.ensures
    ∙ ap₂ ◌⊙◌
    (c.product-top.ensures
    ∙ ap₂ ◌⊙◌ (c.inverse_power.ensures ∙ pow-one _)
    (c.value-omega.ensures
    ∙ ap₂ (λ (n : ℕ) (Λ : Series). Ω_at n Λ (row given.syndromes) given.p) n-is Λ-is))
    (c.inverse.ensures
    ∙ ap inv (c.odd_value-bottom.ensures ∙ ap (λ (Λ : Series). odd_at 49 Λ given.p) Λ-is)))
