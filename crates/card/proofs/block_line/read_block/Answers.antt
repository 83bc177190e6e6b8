-- What is answered and reported is what reading the block comes to.
use Rattle.std.proofs.Common.{◌∙◌}
use Rattle.series.specs.Array.{bytes}
use Rattle.staged_decoding.specs.Definition.{decode}
use Rattle.decoder.specs.Definition.{concluded}
use Rattle.card.specs.BlockLineDefinition.{block_line}
use Rattle.card.specs.BlockLineLaws.{told_line}
use Rattle.card.proofs.block_line.read_block.Goals as goal

pub returns : goal.returns
unfolding block_line
returns c =
    let gives = c.read-r.ensures in
    let result = concluded c.args.p (decode c.args.p (bytes c.args.block.now)) in
    c.told.ensures
    ∙ told_line c.args.i result _ _ _ _ gives.answer gives.report.last gives.report.changed gives.report.bits
