use Rattle.std.proofs.Common.{ap, arith, length, ◌∙◌, ◌≡◌}
use Rattle.field.specs.Field.{◌⊙◌, of}
use Rattle.series.specs.Series.{Series}
use Rattle.series.specs.Shift.{cut, cut_high}
use Rattle.kernel.specs.Power.{power-some, power-fits}
use Rattle.kernel.specs.ProductRow.{products, level-none, level-more}
use Rattle.kernel.proofs.row.fill.Goals as goal

pub loop-w-init : goal.loop-w-init
loop-w-init c = level-none _ _ c.requires.0 c.requires.1

pub level-requires : goal.level-requires
level-requires c =
    let now = c.loop-w in
    let room = power-fits now.w _ now.invariant.power now.invariant.whole (omega (arith, now.invariant.long)) in
    (omega (arith, room, now.invariant.long), λ i h. ap (λ (f : Series). f i) now.invariant.is ∙ cut_high now.w _ i h)

pub loop-w-smaller : goal.loop-w-smaller
loop-w-smaller c =
    let now = c.loop-w in
    omega (arith, power-some now.w now.invariant.power, c.loop-w-test.true, now.invariant.long)

pub loop-w-preserved : goal.loop-w-preserved
loop-w-preserved c =
    let now = c.loop-w in
    level-more _ _ now.invariant (omega (arith, c.loop-w-test.true, now.invariant.long)) c.twice-top.ensures
    (omega (arith, c.row-1.given))
    c.level.ensures

pub shape_of-row : goal.shape_of-row
shape_of-row c = c.loop-w.invariant.long

pub returns : goal.returns
returns c =
    let end = c.loop-w in
    let given = c.args in
    let e : end.w ≡ length given.row.now = omega (arith, end.invariant.most, c.loop-w-test.false, end.invariant.long)
    in record {
      entries = end.invariant.is ∙ ap (λ k. cut k (products (of given.c))) e;
      next = λ h. end.invariant.top (omega arith)
          ∙ ap (λ k. of k ⊙ of given.c) e;
    }
