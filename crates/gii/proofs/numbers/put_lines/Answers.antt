use Rattle.std.proofs.Common.{arith, rules, take}
use Rattle.stages.specs.Report.{says}
use Rattle.gii.specs.NumbersLaws.{lines_none, lines_more, lines-all}
use Rattle.gii.proofs.numbers.put_lines.Goals as goal

pub loop-i-init : goal.loop-i-init
loop-i-init c = lines_none (says c.args.lines) c.args.list.now

pub loop-i-preserved : goal.loop-i-preserved
loop-i-preserved c =
    let now = c.loop-i in
    lines_more c.args.lines (take 3 c.args.list.now) now.list _ _ now.i _ (search rules) now.invariant
    c.line_numbers.ensures c.put.ensures

pub returns : goal.returns
returns c =
    let end = c.loop-i in
    lines-all (says c.args.lines) (take 3 c.args.list.now) end.list end.i (omega arith) end.invariant
