-- Words of different lengths are left.
use Rattle.std.proofs.Common.{rules}
use Rattle.bench_products.specs.Definition.{adds-kept, adds_multiple}
use Rattle.bench_products.proofs.by_bits.Goals as goal

pub returns-then-from-to : goal.returns-then-from-to
returns-then-from-to c = adds-kept _ _ _ (search rules)

pub returns : goal.returns
returns c = adds_multiple _ _ _ _ (search rules) c.add_multiple.ensures
