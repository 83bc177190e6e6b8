-- The product, added.
use Rattle.std.proofs.Common.{◌∙◌}
use Rattle.field.specs.Field.{◌⊕◌, val}
use Rattle.binary.proofs.direct.plus_product.Goals as goal

pub returns : goal.returns
returns c = c.sum.ensures ∙ (λ i. val c.args.a ⊕ c.product.ensures i)
