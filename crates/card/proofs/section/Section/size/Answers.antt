-- A block is m times n bytes.
use Rattle.std.proofs.Common.{rules}
use Rattle.card.specs.SectionLaws.{block-most}
use Rattle.card.proofs.section.Section.size.Goals as goal

pub returns-in-Block-clause-most : goal.returns-in-Block-clause-most
returns-in-Block-clause-most c = (block-most _ _ _ _ _ c.in-Block.is c.block_size.ensures (search rules)).1
