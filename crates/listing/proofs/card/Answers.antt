-- A text, and a number with its text.
use Rattle.std.proofs.Common.{rules}
use Rattle.listing.specs.Definition.{decimal, ascii}
use Rattle.listing.specs.Laws.{appended-next, appended-line, card-short}
use Rattle.listing.proofs.card.Goals as goal

pub returns : goal.returns
returns c =
    appended-line c.new-line.ensures (card-short c.args.q (search rules))
    (appended-next (decimal c.args.q) (ascii "\n") c.put.ensures c.field.ensures)
