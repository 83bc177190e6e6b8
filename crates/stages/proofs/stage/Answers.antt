use Rattle.std.proofs.Common.{arith, length, rules, ◌≡◌}
use Rattle.stages.specs.Stage.{mid_start, mid-next, mid-end}
use Rattle.stages.proofs.stage.Goals as goal

pub loop-i-init : goal.loop-i-init
loop-i-init c f h = mid_start _ f _ _ _ _ h

pub stage-after-requires : goal.stage-after-requires
stage-after-requires c = (
  record { valid = c.requires.0.valid; size = omega (arith, c.requires.0.size) },
  c.loop-i-test.true,
  c.requires.1,
)

pub loop-i-preserved : goal.loop-i-preserved
loop-i-preserved c f h =
    let now = c.loop-i in
    let mid = now.invariant f h in
    let few = c.requires.0.valid.subwords.1 in
    let low = c.loop-i-test.true in
    let rows : length c.args.table ≡ 8 = search rules in
    mid-next c.args.p f c.args.r c.args.table now.i now.block _ now.states low (omega (arith, mid.kept.long)) _ mid
    _ _ _ (omega (arith, rows)) c.stage-after.ensures

pub returns : goal.returns
returns c f h = mid-end _ f _ _ _ _ _ _ (omega arith) (c.loop-i.invariant f h)
