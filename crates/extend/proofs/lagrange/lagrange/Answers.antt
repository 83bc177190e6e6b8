-- The quotient of two products.
use Rattle.std.proofs.Common.{ap, ap₂, ◌∙◌}
use Rattle.field.specs.Field.{◌⊙◌, inv}
use Rattle.extend.specs.LagrangeDefinition.{lagrange}
use Rattle.extend.proofs.lagrange.lagrange.Goals as goal

pub returns : goal.returns
unfolding lagrange
returns c =
    c.product-3.ensures
    ∙ ap₂ ◌⊙◌ c.product-2.ensures (c.inverse-d.ensures ∙ ap inv c.product.ensures)
