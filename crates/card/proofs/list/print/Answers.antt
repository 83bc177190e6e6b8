use Rattle.std.proofs.Common.{arith, length-take-le, rules, sym, ◌∙◌}
use lib.Seq.{length_front}
use Rattle.card.specs.ListLaws.{reached_open, reached_lists}
use Rattle.card.proofs.list.print.Goals as goal

pub loop-input-init : goal.loop-input-init
loop-input-init c = (search rules, reached_open _ c.open-x.ensures, tt)

pub slice_bounds-bytes-end : goal.slice_bounds-bytes-end
slice_bounds-bytes-end c =
    let now = c.loop-input in
    omega (arith, c.size-n.ensures.most now.invariant.1.good, now.invariant.0)

pub slice_bounds-step-end : goal.slice_bounds-step-end
slice_bounds-step-end c =
    let now = c.loop-input in
    sym (length-take-le _ _ (omega (arith, c.size-n.ensures.most now.invariant.1.good, now.invariant.0)))

pub step-s-requires : goal.step-s-requires
step-s-requires c =
    let now = c.loop-input in
    let inside = c.size-n.ensures.most now.invariant.1.good in (
      now.invariant.1,
      sym c.is_over.ensures ∙ c.loop-input-test.true,
      length-take-le _ _ (omega (arith, inside, now.invariant.0)) ∙ c.size-n.ensures.value,
      now.invariant.2,
    )

pub loop-input-smaller : goal.loop-input-smaller
loop-input-smaller c = omega (arith, c.step-s.ensures.falls)

pub loop-input-preserved : goal.loop-input-preserved
loop-input-preserved c =
    let step = c.step-s in
    let now = c.loop-input in
    let read = step.new.bytes in
    let same = length_front now.bytes read c.size-n.result step.auto.bytes in
    (same ∙ now.invariant.0, step.ensures.reached, step.ensures.kept)

pub returns : goal.returns
returns c =
    let now = c.loop-input in
    reached_lists now.s _ now.invariant.1 (sym c.is_over.ensures ∙ c.loop-input-test.false)
