use Rattle.std.proofs.Common.{arith, length, min, ◌≡◌}
use Rattle.test_support.specs.Text.{change_at}
use Rattle.test_support.specs.Laws.{each_none, each_more}
use Rattle.test_support.proofs.print.changes.Goals as goal

pub loop-i-init : goal.loop-i-init
loop-i-init g c = each_none _ (change_at c.args.x.now c.args.y.now) _

pub loop-i-preserved : goal.loop-i-preserved
loop-i-preserved g c =
    each_more (change_at c.args.x.now c.args.y.now) c.loop-i.i c.loop-i.invariant c.change.ensures

pub returns : goal.returns
returns g c =
    let end = c.loop-i in
    let all : end.i ≡ min (length c.args.x.now) (length c.args.y.now) = omega arith in
    rw all at end.invariant
