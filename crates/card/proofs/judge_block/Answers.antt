-- The line, and what comes next.
use Rattle.card.specs.BlockLineLaws.{printed_as}
use Rattle.card.proofs.judge_block.Goals as goal

pub returns : goal.returns
returns c =
    let text = c.line_of.ensures in
    record {
      takes = record { next = c.block_or_end.ensures; line = printed_as text.says c.print-size.ensures };
      made = text.made;
    }
