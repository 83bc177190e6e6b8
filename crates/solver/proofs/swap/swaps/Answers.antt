-- The test of the code is the definition's, with the length in place of k.
use Rattle.std.proofs.Common.{Bool, ap, arith, leb, not, sym, ℕ, ◌&&◌, ◌*◌, ◌+◌, ◌∙◌, ◌≡◌}
use Rattle.field.specs.Field.{val, is_zero_true}
use Rattle.key_equation.specs.Length.{swaps-of, swaps-of-zero}
use Rattle.solver.proofs.swap.swaps.Goals as goal

pub returns-then-not-is_zero : goal.returns-then-not-is_zero
returns-then-not-is_zero c =
    let given = c.args in
    let e : 2 * given.length ≡ given.length + given.length = omega arith in
    sym
    (swaps-of (val given.d) given.r given.length
    ∙ ap (λ (z : Bool). not z && leb (given.length + given.length) given.r)
    (sym c.is_zero.ensures ∙ c.if-not-is_zero.true)
    ∙ ap (λ (n : ℕ). leb n given.r) (sym e))

pub returns-else-not-is_zero : goal.returns-else-not-is_zero
returns-else-not-is_zero c =
    let zero = c.if-not-is_zero.false in
    ap not zero ∙ sym (swaps-of-zero _ _ _ (is_zero_true _ (sym c.is_zero.ensures ∙ zero)))
