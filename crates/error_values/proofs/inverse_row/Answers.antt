-- The power 1 of W p is W p.
use Rattle.std.proofs.Common.{ap, ◌∙◌}
use Rattle.field.specs.Field.{F, pow-one}
use Rattle.series.specs.Shift.{cut}
use Rattle.kernel.specs.ProductRow.{products}
use Rattle.error_values.proofs.inverse_row.Goals as goal

pub returns : goal.returns
returns c =
    c.product_row.ensures
    ∙ ap (λ (x : F). cut 256 (products x)) (c.inverse_power.ensures ∙ pow-one _)
