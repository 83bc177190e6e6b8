-- The other is the sum and the one.
use Rattle.field.specs.Field.{val-zero}
use Rattle.binary.specs.LocationsLaws.{two-same}
use Rattle.binary.proofs.locations.two.Goals as goal

pub returns : goal.returns
returns c = rw (c.sum.ensures, val-zero) (two-same _ _ _ c.one_of_two-x.ensures)
