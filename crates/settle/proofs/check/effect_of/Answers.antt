use Rattle.std.proofs.Common.{arith, sym, ◌≡◌}
use Rattle.series.specs.Array.{values, read_at}
use Rattle.series.specs.Word.{weight-none, weight_le}
use Rattle.settle.specs.Effect.{effect-none, effect-more, count-more}
use Rattle.settle.proofs.check.effect_of.Goals as goal

pub loop-p-init : goal.loop-p-init
loop-p-init c = (sym (weight-none _), effect-none _ _)

pub count_change-count-requires : goal.count_change-count-requires
count_change-count-requires c =
    let now = c.loop-p in (
      omega (arith, weight_le now.p (values c.args.pattern), now.invariant.0),
      omega arith,
      omega arith,
    )

pub loop-p-preserved : goal.loop-p-preserved
loop-p-preserved c =
    let now = c.loop-p in
    let changed = c.count_change-count in (
      count-more now.p _ _ _ _ now.invariant.0 (sym (read_at _ _ _ _)) changed.ensures.0,
      effect-more _ now.p _ _ _ _ now.invariant.1 (sym (read_at _ _ _ _)) changed.ensures.1,
    )

pub returns : goal.returns
returns c =
    let end = c.loop-p in
    let e : end.p ≡ c.args.n = omega arith in
    (rw e at end.invariant.0, rw e at end.invariant.1)
