use Rattle.std.proofs.Common.{arith, length, sym, ◌∙◌}
use Rattle.solver.specs.RoundsRun.{first-none, few}
use Rattle.solver.specs.RoundsEvent.{event-start, event_going, event_ran, event-over, over_yes, over_no}
use Rattle.solver.proofs.rounds.run.Goals as goal

pub loop-init : goal.loop-init
loop-init c = event-start _ _ _ _ _ (first-none c.args.syndromes.now) c.start.ensures

pub returns-then-over : goal.returns-then-over
returns-then-over c =
    let w = c.loop.w in
    let given = c.args in
    let ended = over_yes w.known w.progress.iterations (length given.lengths.now) w.entered
    (sym c.over.ensures ∙ c.if-over.true) in
    event-over _ _ _ (few given.syndromes.now) _ w c.loop.invariant given.events ended.0 ended.1 (omega arith)

pub next-w-requires : goal.next-w-requires
next-w-requires c =
    let w = c.loop.w in
    event_going _ _ _ (few c.args.syndromes.now) _ w c.loop.invariant
    (over_no w.known w.progress.iterations (length c.args.lengths.now) w.entered
    (sym c.over.ensures ∙ c.if-over.false))

pub loop-preserved : goal.loop-preserved
loop-preserved c = c.next-w.ensures _ _ c.loop.invariant

pub returns : goal.returns
returns c = event_ran _ _ _ (few c.args.syndromes.now) _ c.loop.w c.loop.invariant c.args.events (omega arith)
