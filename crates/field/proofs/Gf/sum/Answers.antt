-- Exclusive or of the bytes is the sum of the values.
use Rattle.field.specs.Definition.{val}
use Rattle.field.specs.Byte.{of_xor}
use Rattle.field.proofs.Gf.sum.Goals as goal

pub returns : goal.returns
unfolding val
returns c = of_xor _ _
