-- Nothing of zero, or the powers as products.
use Rattle.std.proofs.Common.{ap, ap₂, arith, refl, sym, ◌∙◌}
use Rattle.field.specs.Field.{F, ◌⊙◌, val, is_zero_true, ⊙-ring}
use Rattle.binary.specs.Coefficients.{zero-pow, pow_3, pow_5}
use Rattle.binary.proofs.received.Syndromes.single.Goals as goal

pub returns-then-is_zero : goal.returns-then-is_zero
returns-then-is_zero c =
    let zero = is_zero_true _ (sym c.is_zero.ensures ∙ c.if-is_zero.true) in
    (refl, rw zero (sym (zero-pow 3 (omega arith))), rw zero (sym (zero-pow 5 (omega arith))))

pub returns : goal.returns
returns c =
    let x = val c.args.x in
    let square = c.product-square.ensures in
    let third = c.product-third.ensures ∙ ap (λ (s : F). x ⊙ s) square in
    (refl, third ∙ sym (pow_3 x), c.product.ensures ∙ ap₂ ◌⊙◌ square third ∙ simp (pow_5, ⊙-ring))
