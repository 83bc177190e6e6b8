use Rattle.std.proofs.Common.{arith, take_all}
use Rattle.listing.specs.Laws.{stored-none, stored-more}
use Rattle.listing.proofs.text.put.Goals as goal

pub loop-b-init : goal.loop-b-init
loop-b-init c = stored-none _ _ _ c.within-end.ensures.value

pub loop-b-preserved : goal.loop-b-preserved
loop-b-preserved c =
    let now = c.loop-b in
    stored-more _ now.b-index (omega arith) now.invariant c.byte-end.ensures

pub returns : goal.returns
returns c = rw (take_all c.loop-b.b-index c.args.text.now (omega arith)) at c.loop-b.invariant
