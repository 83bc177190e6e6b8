-- The table that is there, or a new one.
use Rattle.std.proofs.Common.{arith}
use Rattle.divider.specs.GeneratorTable.{table_for}
use Rattle.divider.proofs.generator.prepare.Goals as goal

pub returns-then-made-k : goal.returns-then-made-k
returns-then-made-k c = table_for c.if-made-k.true (c.requires.0.table (omega (arith, c.requires.2, c.if-made-k.true)))
