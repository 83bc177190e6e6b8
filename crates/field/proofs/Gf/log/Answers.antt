-- The table of logarithms is the one defined, entry by entry: antt computes it here.
use Rattle.std.proofs.Common.{arith, rules}
use mathlib.Core.Bool.{xor}
use Rattle.field.specs.Definition.{𝟎, 𝟏, α, ◌⊕◌, ◌⊙◌, times, plus, scale, z⁸, horner, modulo, coefficients, bit}
use Rattle.field.specs.Definition.{byte, powers, place, log_of, val, tabulate, log_table}
use Rattle.field.proofs.Log.{log_table-at, log_table_lt}
use Rattle.field.proofs.Gf.log.Goals as goal

pub overflow_cast-result : goal.overflow_cast-result
unfolding log_table tabulate log_of place powers byte bit 𝟎 𝟏 α ◌⊙◌ times plus modulo horner scale z⁸ ◌⊕◌ coefficients
    xor
overflow_cast-result c = omega (arith, log_table_lt c.args.self.0 (search rules))

pub returns : goal.returns
unfolding val log_table tabulate log_of place powers byte bit 𝟎 𝟏 α ◌⊙◌ times plus modulo horner
    scale z⁸ ◌⊕◌ coefficients xor
returns c = log_table-at c.args.self.0 (search rules)
