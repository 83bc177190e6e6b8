-- Zero stays zero.
use Rattle.std.proofs.Common.{ap, sym, ◌∙◌}
use Rattle.field.specs.Field.{◌⊙◌, ⊙-zero, val, is_zero_true}
use Rattle.settling.specs.Twist.{inverse_multiplier}
use Rattle.settle.proofs.untwist.change.Goals as goal

pub returns-then-is_zero : goal.returns-then-is_zero
returns-then-is_zero c =
    let given = c.args in
    let y = val given.y in
    let z = is_zero_true y (sym c.is_zero.ensures ∙ c.if-is_zero.true) in
    z ∙ sym (ap (λ t. inverse_multiplier given.first given.p ⊙ t) z ∙ ⊙-zero _)

pub returns-else-is_zero : goal.returns-else-is_zero
returns-else-is_zero c =
    let given = c.args in
    c.product.ensures ∙ ap (λ t. t ⊙ val given.y) c.inverse_multiplier.ensures
