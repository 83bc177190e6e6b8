use Rattle.std.proofs.Common.{ap, arith, sym, ◌∙◌, ◌≡◌}
use Rattle.field.specs.Field.{◌⊙◌}
use Rattle.series.specs.Shift.{cut}
use Rattle.series.specs.Array.{values, read_at, filled_none, filled_more}
use Rattle.settling.specs.Twist.{inverse_multiplier, untwist, untwist-at}
use Rattle.settle.proofs.untwist.untwist.Goals as goal

pub loop-p-init : goal.loop-p-init
loop-p-init c = filled_none 255 _

pub change-requires : goal.change-requires
change-requires c = omega (arith, c.requires)

pub loop-p-preserved : goal.loop-p-preserved
loop-p-preserved c =
    let now = c.loop-p in
    let given = c.args in
    filled_more _ now.invariant (omega arith)
    (c.change.ensures
    ∙ sym (untwist-at given.first (values given.pattern) now.p
    ∙ ap (λ y. inverse_multiplier given.first now.p ⊙ y) (read_at _ _ _ _)))

pub returns : goal.returns
returns c =
    let end = c.loop-p in
    let given = c.args in
    let e : end.p ≡ given.n = omega arith in
    end.invariant.is ∙ ap (λ p. cut p (untwist given.first (values given.pattern))) e
