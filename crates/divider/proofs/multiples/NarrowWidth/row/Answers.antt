-- The two lowest words are zero.
use Rattle.std.proofs.Common.{refl}
use Rattle.divider.specs.Packed.{tops-low}
use Rattle.divider.proofs.multiples.NarrowWidth.row.Goals as goal

pub returns : goal.returns
returns c = (refl, tops-low _ _ _ _)
