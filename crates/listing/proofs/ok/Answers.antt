-- Four numbers with their texts.
use Rattle.std.proofs.Common.{rules}
use Rattle.listing.specs.Laws.{appended-next, appended-line, ok-short}
use Rattle.listing.proofs.ok.Goals as goal

pub returns : goal.returns
returns c =
    let given = c.args in
    let fits = ok-short given.index given.last given.changed given.bits
    (search rules) (search rules) (search rules) (search rules) in
    let start = appended-next _ _ c.field.ensures c.field-2.ensures in
    let middle = appended-next _ _ start c.field-3.ensures in
    appended-line c.new-line.ensures fits (appended-next _ _ middle c.field-4.ensures)
