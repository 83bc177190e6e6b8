-- A row of 256 zeros is filled.
use Rattle.std.proofs.Common.{ap, rules, sym, ◌∙◌}
use Rattle.field.specs.Field.{F, val_of}
use Rattle.series.specs.Shift.{cut}
use Rattle.kernel.specs.Copy.{zeros}
use Rattle.kernel.specs.Power.{power_256}
use Rattle.kernel.specs.ProductRow.{products, row-products}
use Rattle.kernel.proofs.row.product_row.Goals as goal

pub fill-requires : goal.fill-requires
fill-requires c = (power_256, zeros 256)

pub invariant_of-row : goal.invariant_of-row
invariant_of-row c = record { is = row-products _ _ (search rules) c.fill.ensures.entries }

pub returns : goal.returns
returns c = c.fill.ensures.entries ∙ ap (λ (a : F). cut 256 (products a)) (sym (val_of _))
