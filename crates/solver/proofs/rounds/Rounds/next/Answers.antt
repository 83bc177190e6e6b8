-- The two ways that a run goes on.
use Rattle.std.proofs.Common.{arith}
use native.Mathlib.Nat.{min-le_right}
use Rattle.solver.specs.RoundsRun.{few}
use Rattle.solver.specs.RoundsEvent.{event-iterate, event-enter}
use Rattle.solver.proofs.rounds.Rounds.next.Goals as goal

pub returns-then-r-w : goal.returns-then-r-w
returns-then-r-w c form n t =
    let given = c.args in
    event-iterate form _ _ (few given.self.syndromes.now) n given.w t c.if-r-w.true _ _
    c.swaps.ensures c.iterate.ensures

pub reach-more-requires : goal.reach-more-requires
reach-more-requires c =
    let going = c.requires in
    (going.few, going.more c.if-r-w.false)

pub first-s-requires : goal.first-s-requires
first-s-requires c = rw c.reach-more.ensures (min-le_right _ _)

pub overflow_add-result-2 : goal.overflow_add-result-2
overflow_add-result-2 c = record { fits = omega (arith, c.requires.more c.if-r-w.false, c.well_formed.0.1.0) }

pub returns : goal.returns
returns c form n t =
    let given = c.args in
    let more = c.requires.more c.if-r-w.false in
    event-enter form _ given.self.lengths.now (few given.self.syndromes.now) n given.w t c.if-r-w.false more _ _ _
    c.reach-more.ensures c.first-s.ensures c.enter.ensures
