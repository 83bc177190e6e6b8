-- A clean word, a locator that is too long, and locations that are put to the test.
use Rattle.field.specs.Field.{val-zero}
use Rattle.binary.specs.Located.{zeros_yes, zeros_no, locates-clean, locates-long, locates_tested}
use Rattle.binary.proofs.locate.Goals as goal

pub returns-then-are_zero : goal.returns-then-are_zero
returns-then-are_zero c =
    locates-clean _ _ _ _ _ (val-zero, val-zero, val-zero)
    (zeros_yes _ _ _ _ c.are_zero.ensures c.if-are_zero.true)

pub returns-then-solved-gt3 : goal.returns-then-solved-gt3
returns-then-solved-gt3 c =
    locates-long _ _ _ _ (zeros_no _ _ _ _ c.are_zero.ensures c.if-are_zero.false) _
    c.solve-solved.ensures.formulas c.if-solved-gt3.true

pub returns : goal.returns
returns c =
    let is = c.then_some.ensures in
    locates_tested _ _ _ _ (zeros_no _ _ _ _ c.are_zero.ensures c.if-are_zero.false) _
    c.solve-solved.ensures.formulas _ _ _ (λ e. rw e at is) (λ e. rw e at is) c.of_locator-x.ensures c.test.ensures
