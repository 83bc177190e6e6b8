-- The tables are of a.
use Rattle.field.specs.Field.{val}
use Rattle.polynomial.proofs.halves.scale.Goals as goal

pub returns : goal.returns
returns c = c.scale_by.ensures (val c.args.a) c.split-h.ensures
