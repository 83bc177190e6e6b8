-- A location that is not zero is within n if its logarithm is below n.
use Rattle.std.proofs.Common.{arith, ltb-false, sym, ◌∙◌}
use Rattle.field.specs.Field.{is_zero_true, is_zero_false}
use Rattle.binary.proofs.within.Goals as goal

pub returns-then-is_zero-clause-yes : goal.returns-then-is_zero-clause-yes
returns-then-is_zero-clause-yes c _ h = absurd (h (is_zero_true _ (sym c.is_zero.ensures ∙ c.if-is_zero.true)))

pub returns-else-is_zero-clause-no : goal.returns-else-is_zero-clause-no
returns-else-is_zero-clause-no c e w =
    let outside = ltb-false _ _ e in
    let inside = w (is_zero_false _ (sym c.is_zero.ensures ∙ c.if-is_zero.false)) in
    absurd (omega (arith, c.log.ensures, outside, inside))
