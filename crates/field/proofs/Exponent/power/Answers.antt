-- The table of powers is the one defined, entry by entry: antt computes it here.
use Rattle.std.proofs.Common.{ap, arith, ◌%◌, ◌∙◌}
use mathlib.Core.Bool.{xor}
use Rattle.field.specs.Definition.{𝟎, 𝟏, α, ◌⊕◌, ◌⊙◌, times, plus, scale, z⁸, horner, modulo}
use Rattle.field.specs.Definition.{coefficients, bit, byte, powers, val, of, power_table}
use Rattle.field.specs.Byte.{of-byte}
use Rattle.field.proofs.Log.{power_table-at}
use Rattle.field.proofs.Inverse.{power_mod}
use Rattle.field.proofs.Exponent.power.Goals as goal

pub returns : goal.returns
unfolding val power_table powers byte bit 𝟎 𝟏 α ◌⊙◌ times plus modulo horner scale z⁸ ◌⊕◌ coefficients xor
returns c =
    ap of (power_table-at (c.args.self.0 % 255) (omega arith)) ∙ of-byte _
    ∙ power_mod c.args.self.0
