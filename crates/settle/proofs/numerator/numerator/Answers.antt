use Rattle.std.proofs.Common.{ap, arith, sym, ◌∙◌, ◌≡◌}
use Rattle.series.specs.Series.{◌⊠◌}
use Rattle.series.specs.Shift.{cut}
use Rattle.polynomial.specs.Polynomial.{poly, row as Row, poly-at}
use Rattle.settle.specs.NumeratorProduct.{product-none, product-more, product-first}
use Rattle.settle.proofs.numerator.numerator.Goals as goal

pub loop-i-init : goal.loop-i-init
loop-i-init c = product-none 57 _ _

pub loop-i-preserved : goal.loop-i-preserved
loop-i-preserved c =
    let now = c.loop-i in
    product-more now.i _ _ _ _ _ now.invariant c.add_term.ensures
    (sym (poly-at c.args.locator now.i (omega arith)))

pub returns : goal.returns
returns c =
    let end = c.loop-i in
    let given = c.args in
    let e : end.i ≡ given.m = omega arith in
    c.first_bytes.ensures
    ∙ ap (cut given.m) (end.invariant ∙ ap (λ i. cut i (poly given.locator) ⊠ cut 32 (Row given.row)) e)
    ∙ product-first given.m _ _ (omega arith)
