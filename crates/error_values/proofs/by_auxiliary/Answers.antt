-- The formula, factor by factor.
use Rattle.std.proofs.Common.{ap, ap₂, arith, sym, ℕ, ◌∙◌}
use Rattle.field.specs.Field.{F, ◌⊙◌, inv, pow}
use Rattle.series.specs.Series.{Series}
use Rattle.polynomial.specs.Polynomial.{row, poly-at}
use Rattle.settling.specs.Locator.{W}
use Rattle.settling.specs.Twist.{inverse_multiplier}
use Rattle.settling.specs.ErrorValue.{divisor, by_auxiliary}
use Rattle.error_values.specs.Definition.{factor_in}
use Rattle.error_values.proofs.by_auxiliary.Goals as goal

pub returns : goal.returns
unfolding by_auxiliary
returns c r f m h =
    let given = c.args in
    let Λ-is = c.locator-locator.ensures r f m h in
    let n-is = c.iterations-n.ensures in
    c.untwisted.ensures
    ∙ ap (λ (x : F). inverse_multiplier given.first given.p ⊙ x)
    (c.product.ensures
    ∙ ap₂ ◌⊙◌
    (c.product-dividend.ensures
    ∙ ap₂ ◌⊙◌
    (c.product-g.ensures
    ∙ ap₂ ◌⊙◌
    (c.factor.ensures r f m h ∙ ap (λ n. factor_in f n (row given.syndromes) m) n-is)
    (sym (poly-at _ 0 (omega arith)) ∙ ap (λ (Λ : Series). Λ 0) Λ-is))
    (c.inverse_power.ensures ∙ ap (λ (n : ℕ). pow (W given.p) n) n-is))
    (c.inverse.ensures
    ∙ ap inv (c.both_values-divisor.ensures
    ∙ ap₂ (λ (Λ B : Series). divisor 49 Λ B given.p) Λ-is (c.auxiliary-b.ensures r f m h))))
