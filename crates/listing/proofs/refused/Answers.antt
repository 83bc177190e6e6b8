-- Two numbers with their texts.
use Rattle.std.proofs.Common.{rules}
use Rattle.listing.specs.Laws.{appended-next, appended-line, refused-short}
use Rattle.listing.proofs.refused.Goals as goal

pub returns : goal.returns
returns c =
    let given = c.args in
    appended-line c.new-line.ensures (refused-short given.index given.q (search rules) (search rules))
    (appended-next _ _ c.field.ensures c.field-2.ensures)
