-- The position by logarithms: there is the root, and at no position before it.
use Rattle.std.proofs.Common.{ap, ap₂, arith, length, sym, ◌∙◌}
use Rattle.field.specs.Field.{◌⊙◌, of, of_zero, log}
use Rattle.series.specs.Array.{bytes, below-read}
use Rattle.polynomial.specs.Polynomial.{poly-at}
use Rattle.settling.specs.Locator.{W-is}
use Rattle.settle.specs.CandidateOne.{log-small, one_place, one_found, one_none}
use Rattle.settle.proofs.candidate.locate_one.Goals as goal

pub overflow_sub-p : goal.overflow_sub-p
overflow_sub-p c = omega (arith, log-small _ _ c.log-i.ensures)

pub overflow_add-p : goal.overflow_add-p
overflow_add-p c = omega (arith, log-small _ _ c.log-j.ensures)

pub returns-then-n-p : goal.returns-then-n-p
returns-then-n-p c =
    let f = c.args.locator in
    let place = one_place _ _ _ _ c.requires.2 c.requires.3 (c.log-i.ensures
    ∙ ap log (sym (poly-at f 0 (omega arith)))) (c.log-j.ensures ∙ ap log (sym (poly-at f 1 (omega arith)))) in
    one_none _ (bytes c.args.numerator.now) _ (omega arith) c.requires.2 place _ (omega arith)

pub returns : goal.returns
returns c =
    let f = c.args.locator in
    let word = c.args.numerator.now in
    let second = sym (poly-at f 1 (omega arith)) in
    let place = one_place _ _ _ _ c.requires.2 c.requires.3
    (c.log-i.ensures ∙ ap log (sym (poly-at f 0 (omega arith)))) (c.log-j.ensures ∙ ap log second) in
    one_found _ _ _ (omega arith) c.requires.2 place _ (length word) _ _ (omega arith) (below-read of 0 of_zero _)
    c.requires.1 c.requires.3
    (c.product.ensures
    ∙ ap₂ ◌⊙◌ (c.value-top.ensures _ (c.power.ensures ∙ sym (W-is _ (omega arith)))) c.inverse.ensures)
    second
