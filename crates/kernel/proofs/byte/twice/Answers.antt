-- The law of doubling, for a byte.
use Rattle.std.proofs.Common.{rules}
use Rattle.field.proofs.Field.{of_twice}
use Rattle.kernel.proofs.byte.twice.Goals as goal

pub returns : goal.returns
returns c = of_twice c.args.x (search rules)
