use Rattle.std.proofs.Common.{arith, refl, rules, ◌<◌, ◌∙◌}
use Rattle.kernel.specs.Power.{power-room}
use Rattle.divider.specs.MultiplesBuilding.{spare-zero, built-one, built-spare, built-more, built-all}
use Rattle.divider.proofs.multiples.build.Goals as goal

pub loop-w-init : goal.loop-w-init
loop-w-init g c = (refl, built-one _ _ _ _ c.requires.0 c.write.ensures)

pub level-requires : goal.level-requires
level-requires g c =
    let now = c.loop-w in
    let more : now.w < 256 = omega (arith, c.loop-w-test.true) in (
      (power-room now.w now.invariant.1.power more).1,
      now.invariant.1.long,
      built-spare _ _ now.invariant.1 more c.requires.1 c.pack.ensures,
    )

pub loop-w-smaller : goal.loop-w-smaller
loop-w-smaller g c =
    let now = c.loop-w in
    omega (
      arith,
      (power-room now.w now.invariant.1.power (omega (arith, c.loop-w-test.true))).0,
      c.loop-w-test.true,
    )

pub loop-w-preserved : goal.loop-w-preserved
loop-w-preserved g c =
    let now = c.loop-w in
    let level = c.level.ensures in
    let packed = c.pack.ensures in (
      level.long ∙ now.invariant.0,
      built-more _ _ _ now.invariant.1 (omega (arith, c.loop-w-test.true)) packed level c.doubled-next.ensures,
    )

pub shape_of-t : goal.shape_of-t
shape_of-t g c = c.loop-w.invariant.0 ∙ c.write.ensures.long

pub returns : goal.returns
returns g c =
    let end = c.loop-w in
    built-all _ _ end.w end.top end.t end.invariant.1 (omega (arith, c.loop-w-test.false))

pub write-requires : goal.write-requires
write-requires g c = (search rules, c.requires.0, spare-zero _)
