use Rattle.std.proofs.Common.{ap, arith, rules, ◌∙◌}
use Rattle.series.specs.Series.{Series, ◌⊞◌}
use Rattle.divider.specs.Packed.{packed}
use Rattle.divider.specs.MultiplesBuilding.{added_none, added_more, spare-sum}
use Rattle.divider.proofs.multiples.level.Goals as goal

pub loop-i-init : goal.loop-i-init
loop-i-init g c = added_none _ _ _ _

pub write-requires : goal.write-requires
write-requires g c =
    (search rules, search rules, spare-sum _ _ _ _ c.row-m.ensures.1 c.requires.2 c.sum.ensures.0)

pub loop-i-preserved : goal.loop-i-preserved
loop-i-preserved g c =
    let now = c.loop-i in
    let r = packed c.args.r in
    let sum = c.sum.ensures.0
    ∙ ap (λ (f : Series). f ⊞ r) c.row-m.ensures.0 in
    added_more _ now.invariant (omega arith) sum c.write.ensures

pub shape_of-t : goal.shape_of-t
shape_of-t g c = c.loop-i.invariant.long
