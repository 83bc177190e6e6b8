-- Each way is by c.
use Rattle.field.specs.Field.{val_of}
use Rattle.bench_products.proofs.multiple.Goals as goal

pub returns-in-Row : goal.returns-in-Row
returns-in-Row c = rw (val_of _) at c.by_row.ensures

pub returns-in-Halves : goal.returns-in-Halves
returns-in-Halves c = rw (val_of _) at c.by_halves.ensures

pub returns-in-Bits : goal.returns-in-Bits
returns-in-Bits c = rw (val_of _) at c.by_bits.ensures
