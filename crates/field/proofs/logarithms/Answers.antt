-- The table of logarithms is the one defined, entry by entry: antt computes it here.
use Rattle.std.proofs.Common.{refl}
use mathlib.Core.Bool.{xor}
use Rattle.field.specs.Definition.{𝟎, 𝟏, α, ◌⊕◌, ◌⊙◌, times, plus, scale, z⁸, horner, modulo, coefficients, bit}
use Rattle.field.specs.Definition.{byte, powers, place, log_of, tabulate, log_table}
use Rattle.field.proofs.Log.{log_table-at, log_table-is}
use Rattle.field.proofs.logarithms.Goals as goal

pub returns : goal.returns
unfolding log_table tabulate log_of place powers byte bit 𝟎 𝟏 α ◌⊙◌ times plus modulo horner
    scale z⁸ ◌⊕◌ coefficients xor
returns c = log_table-is _ refl (λ b h. log_table-at b h)
