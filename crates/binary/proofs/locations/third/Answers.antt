-- The table is the one defined, entry by entry: antt computes it here.
use mathlib.Core.Bool.{xor}
use Rattle.field.specs.Definition.{𝟎, ◌⊕◌, ◌⊙◌, times, plus, scale, z⁸, horner, modulo, coefficients, of, is_odd}
use Rattle.field.specs.Definition.{bit, byte, val}
use Rattle.binary.specs.Locations.{cubic}
use Rattle.binary.specs.LocationsLaws.{roots_from, root_table, root-at}
use Rattle.binary.proofs.locations.third.Goals as goal

pub returns : goal.returns
unfolding root_table roots_from val byte of bit is_odd 𝟎 ◌⊙◌ times plus modulo horner scale z⁸ ◌⊕◌ coefficients xor
returns c = root-at cubic c.args.k c.index.result c.index.ensures
