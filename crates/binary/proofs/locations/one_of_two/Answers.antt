-- The root from the table times the sum.
use Rattle.field.specs.Field.{val}
use Rattle.binary.specs.LocationsLaws.{one_of_two}
use Rattle.binary.proofs.locations.one_of_two.Goals as goal

pub returns : goal.returns
returns c =
    let given = c.args in
    rw c.product.ensures
    (one_of_two _ (val given.both) _
    (rw (c.product-k.ensures, c.power.ensures) at c.half.ensures))
