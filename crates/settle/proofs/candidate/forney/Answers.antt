-- The row's factor w is W p.
use Rattle.std.proofs.Common.{ap, ap₂, sym, ◌∙◌}
use Rattle.field.specs.Field.{◌⊙◌, inv}
use Rattle.kernel.specs.ProductRow.{factor-products}
use Rattle.settling.specs.Locator.{W-is}
use Rattle.settle.proofs.candidate.forney.Goals as goal

pub returns : goal.returns
returns c =
    let w = c.power-w.ensures ∙ sym (W-is c.args.p c.requires) in
    let by = factor-products _ _ c.product_row-row.ensures ∙ w in
    c.product.ensures
    ∙ ap₂ ◌⊙◌
    (c.product-scaled.ensures ∙ ap₂ ◌⊙◌ w (c.value-top.ensures _ by))
    (c.inverse.ensures ∙ ap inv (c.value-bottom.ensures _ by))
