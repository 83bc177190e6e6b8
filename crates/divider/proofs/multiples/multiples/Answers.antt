-- Narrow or wide by the degree: the zeros below 48 - k reach above those that narrow rows do not store.
use Rattle.std.proofs.Common.{arith}
use Rattle.divider.specs.Multiples.{rows-narrow, rows-wide}
use Rattle.divider.proofs.multiples.multiples.Goals as goal

pub build-requires : goal.build-requires
build-requires c = (c.requires.0, λ i h. c.requires.1 i (omega arith))

pub returns-then-k-le32 : goal.returns-then-k-le32
returns-then-k-le32 c = rw (rows-narrow c.args.k c.if-k-le32.true) c.build.ensures

pub returns-else-k-le32 : goal.returns-else-k-le32
returns-else-k-le32 c = rw (rows-wide c.args.k (omega (arith, c.if-k-le32.false))) c.build-else-k-le32.ensures
