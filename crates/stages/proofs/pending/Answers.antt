use Rattle.std.proofs.Common.{arith, length, length-set, rules, ◌∙◌, ◌≡◌}
use Rattle.stages.specs.View.{pending?}
use Rattle.stages.specs.Lines.{map_each, map_more}
use Rattle.stages.proofs.pending.Goals as goal

pub loop-i-init : goal.loop-i-init
loop-i-init c = (search rules, λ j d e h. absurd (omega arith))

pub loop-i-preserved : goal.loop-i-preserved
loop-i-preserved c =
    let now = c.loop-i in
    let long : length c.args.states.now ≡ 8 = search rules in
    let (room, made) = now.invariant in (
      length-set now.flags _ _ ∙ room,
      map_more pending? _ _ now.i _ _ (omega (arith, long)) (omega (arith, room)) c.is_pending.ensures made,
    )

pub returns : goal.returns
returns c =
    let (room, made) = c.loop-i.invariant in
    let long : length c.args.states.now ≡ 8 = search rules in
    map_each pending? _ _ (omega (arith, long, room)) (λ j d e h. made j d e (omega (arith, room)))
