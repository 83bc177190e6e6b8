use Rattle.std.proofs.Common.{arith, length, sym, ◌-◌, ◌≡◌}
use Rattle.field.specs.Field.{of, of_zero}
use Rattle.series.specs.Array.{bytes, read_at, read-zeros}
use Rattle.divider.specs.EvaluationLanes.{lanes-none, lanes-more, lanes_all}
use Rattle.divider.proofs.evaluation.block.Goals as goal

pub loop-p-init : goal.loop-p-init
loop-p-init c = lanes-none _ _ _ _ _ (read-zeros of 0 of_zero 32 _)

pub loop-p-preserved : goal.loop-p-preserved
loop-p-preserved c =
    let now = c.loop-p in
    let r = c.args.r.now in
    lanes-more (length r) (bytes r) _ _ now.p _ _ _ (omega arith) (omega arith) now.invariant
    (sym (read_at of 0 r (now.p - 1))) c.horner-next.ensures

pub returns : goal.returns
returns c =
    let end = c.loop-p in
    let e : end.p ≡ 0 = omega arith in
    lanes_all _ _ _ _ _ (rw e at end.invariant)
