-- One part after the other.
use Rattle.std.proofs.Common.{rules}
use Rattle.stages.specs.Report.{says}
use Rattle.gii.specs.NumbersLaws.{listed_parts}
use Rattle.gii.proofs.numbers.list_of.Goals as goal

pub returns : goal.returns
returns c =
    let given = c.args.r in
    let with-lines = c.put_lines.new.list in
    let with-block = c.put_two.new.list in
    listed_parts (says given.lines) given.last given.changed given.bits c.head-list.result with-lines
    with-block c.put_bits.new.list (search rules) c.head-list.ensures
    c.put_lines.ensures c.put_two.ensures c.put_bits.ensures
