-- A cube root, or the root from the table times a square root.
use Rattle.std.proofs.Common.{sym, ◌∙◌}
use Rattle.field.specs.Field.{val, is_zero_true, is_zero_false}
use Rattle.binary.specs.LocationsLaws.{one_of_three, one-of-three_pure}
use Rattle.binary.proofs.locations.one_of_three.Goals as goal

pub returns-then-is_zero : goal.returns-then-is_zero
returns-then-is_zero c =
    let given = c.args in
    let none = is_zero_true (val given.pairs) (sym c.is_zero.ensures ∙ c.if-is_zero.true) in
    rw (none, c.power.ensures) (one-of-three_pure (val given.all))

pub returns : goal.returns
returns c =
    let given = c.args in
    let some = is_zero_false (val given.pairs) (sym c.is_zero.ensures ∙ c.if-is_zero.false) in
    rw (c.product.ensures, c.power-3.ensures)
    (one_of_three _ (val given.all) _ some
    (rw (c.product-k.ensures, c.power-2.ensures) at c.third.ensures))
