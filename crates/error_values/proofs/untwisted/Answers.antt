-- The power 256 - f of the location, as a power of α.
use Rattle.std.proofs.Common.{ap, arith, sym, ℕ, ◌*◌, ◌∙◌}
use Rattle.field.specs.Field.{F, α, ◌⊙◌, pow, val}
use Rattle.settling.specs.Twist.{inverse_multiplier-is}
use Rattle.error_values.proofs.untwisted.Goals as goal

pub returns : goal.returns
returns c =
    let given = c.args in
    c.product.ensures
    ∙ ap (λ (x : F). x ⊙ val given.y)
    (c.power.ensures
    ∙ ap (λ (k : ℕ). pow α (given.p * k)) c.less-e.ensures
    ∙ sym (inverse_multiplier-is given.first given.p (omega arith)))
