-- A text, and a number with its text.
use Rattle.std.proofs.Common.{rules}
use Rattle.listing.specs.Definition.{decimal, ascii}
use Rattle.listing.specs.Laws.{appended-next, appended-line, blocks-short}
use Rattle.listing.proofs.blocks.Goals as goal

pub returns : goal.returns
returns c =
    appended-line c.new-line.ensures (blocks-short c.args.n (search rules))
    (appended-next (decimal c.args.n) (ascii "\n") c.put.ensures c.field.ensures)
