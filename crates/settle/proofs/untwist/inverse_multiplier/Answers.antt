-- The power 256 - f of the location, as a power of α.
use Rattle.std.proofs.Common.{ap, arith, mul-le-mul, sym, ◌*◌, ◌∙◌, ◌≤◌}
use Rattle.field.specs.Field.{α, pow}
use Rattle.field.proofs.Field.{power_mod}
use Rattle.settling.specs.Twist.{inverse_multiplier-is}
use Rattle.settle.proofs.untwist.inverse_multiplier.Goals as goal

pub overflow_mul-e : goal.overflow_mul-e
overflow_mul-e c =
    let p : c.args.p ≤ 255 = omega arith in
    let l : c.less.result ≤ 256 = omega (arith, c.less.ensures) in
    record { fits = omega (arith, mul-le-mul p l) }

pub returns : goal.returns
returns c =
    let given = c.args in
    c.at.ensures
    ∙ power_mod _
    ∙ ap (λ k. pow α (given.p * k)) c.less.ensures
    ∙ sym (inverse_multiplier-is given.first given.p (omega arith))
