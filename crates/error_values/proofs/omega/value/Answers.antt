-- One coefficient of the product with the quotient.
use Rattle.std.proofs.Common.{ap, ap₂, arith, sym, ◌∙◌, ◌≡◌}
use Rattle.field.specs.Field.{◌⊙◌, val-zero}
use Rattle.series.specs.Value.{value_none}
use Rattle.polynomial.specs.Polynomial.{poly, row as Row}
use Rattle.kernel.specs.ProductRow.{factor-products}
use Rattle.settling.specs.ErrorValue.{Ω_at}
use Rattle.error_values.specs.OmegaValue.{omega-is}
use Rattle.error_values.proofs.omega.value.Goals as goal

pub returns-then-k-eq0 : goal.returns-then-k-eq0
returns-then-k-eq0 c =
    let given = c.args in
    let none : given.k ≡ 0 = omega (arith, c.if-k-eq0.true) in
    val-zero ∙ sym (ap (λ k. Ω_at k (poly given.locator) (Row given.s) given.p) none ∙ value_none _ _)

pub returns : goal.returns
returns c =
    c.product.ensures
    ∙ ap₂ ◌⊙◌ c.inverse_power.ensures c.convolve-d.ensures
    ∙ omega-is c.args.k c.args.p _ _ _ _ (omega (arith, c.if-k-eq0.false)) c.requires
    (factor-products _ _ c.product_row-row.ensures ∙ c.power.ensures) c.divided.ensures
