-- The product of the two bytes.
use Rattle.std.proofs.Common.{ap₂, sym, ◌∙◌}
use Rattle.field.specs.Field.{◌⊙◌, val_of}
use Rattle.kernel.proofs.byte.product.Goals as goal

pub returns : goal.returns
returns c = val_of _ ∙ c.multiply.ensures ∙ sym (ap₂ ◌⊙◌ (val_of _) (val_of _))
