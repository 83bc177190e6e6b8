-- The table of powers of α⁵ is the one defined, entry by entry: antt computes it here.
use mathlib.Core.Bool.{xor}
use Rattle.field.specs.Definition.{𝟎, 𝟏, α, ◌⊕◌, ◌⊙◌, pow, times, plus, scale, z⁸, horner, modulo, coefficients}
use Rattle.field.specs.Definition.{bit, byte}
use Rattle.binary.specs.Received.{fifth}
use Rattle.binary.specs.ReceivedLaws.{powers_of, table_of, table_of-at}
use Rattle.binary.proofs.received.fifths.Goals as goal

pub returns : goal.returns
unfolding table_of powers_of byte bit pow 𝟎 𝟏 α ◌⊙◌ times plus modulo horner scale z⁸ ◌⊕◌ coefficients xor
returns c = table_of-at fifth
