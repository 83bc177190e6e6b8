-- The entries are the roots: antt computes the test here.
use Rattle.std.proofs.Common.{rules}
use mathlib.Core.Bool.{xor}
use Rattle.field.specs.Definition.{𝟎, 𝟏, α, ◌⊕◌, ◌⊙◌, times, plus, scale, z⁸, horner, modulo}
use Rattle.field.specs.Definition.{coefficients, bit, byte, powers, power_table}
use Rattle.field.specs.Test.{all}
use Rattle.divider.specs.EvaluationLanes.{roots?, roots}
use Rattle.divider.proofs.evaluation.first_roots.Goals as goal

pub returns : goal.returns
unfolding roots? all power_table powers byte bit 𝟎 𝟏 α ◌⊙◌ times plus modulo horner scale z⁸ ◌⊕◌ coefficients xor
returns c = roots _ (search rules) tt
