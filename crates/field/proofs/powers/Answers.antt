-- The table of powers is the one defined, entry by entry: antt computes it here.
use Rattle.std.proofs.Common.{refl}
use mathlib.Core.Bool.{xor}
use Rattle.field.specs.Definition.{𝟎, 𝟏, α, ◌⊕◌, ◌⊙◌, times, plus, scale, z⁸, horner, modulo}
use Rattle.field.specs.Definition.{coefficients, bit, byte, powers, power_table}
use Rattle.field.proofs.powers.Goals as goal

pub returns : goal.returns
unfolding power_table powers byte bit 𝟎 𝟏 α ◌⊙◌ times plus modulo horner scale z⁸ ◌⊕◌ coefficients xor
returns c = refl
