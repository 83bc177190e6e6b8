use Rattle.std.proofs.Common.{arith, length, ◌≡◌}
use Rattle.test_support.specs.Text.{number_at}
use Rattle.test_support.specs.Laws.{each_none, each_more}
use Rattle.test_support.proofs.print.numbers.Goals as goal

pub loop-x-init : goal.loop-x-init
loop-x-init g c = each_none _ (number_at c.args.s.now) _

pub loop-x-preserved : goal.loop-x-preserved
loop-x-preserved g c =
    each_more (number_at c.args.s.now) c.loop-x.x-index c.loop-x.invariant
    (rw c.from.ensures at c.number.ensures)

pub returns : goal.returns
returns g c =
    let end = c.loop-x in
    let all : end.x-index ≡ length c.args.s.now = omega arith in
    rw all at end.invariant
