use Rattle.std.proofs.Common.{arith, length-set, rules, sym, ap, ◌+◌, ◌*◌, ◌∙◌, ◌≡◌}
use Rattle.field.specs.Field.{val_of}
use Rattle.series.specs.Shift.{cut}
use Rattle.series.specs.Value.{odd}
use Rattle.polynomial.specs.Polynomial.{poly, poly-at}
use Rattle.polynomial.specs.CoefficientsOdd.{odds-none, odds-more, odds-all}
use Rattle.polynomial.proofs.coefficients.odd.Goals as goal

pub loop-i-init : goal.loop-i-init
loop-i-init c = (search rules, odds-none 49 _)

pub loop-i-preserved : goal.loop-i-preserved
loop-i-preserved c =
    let now = c.loop-i in
    let f = c.args.f in
    let at = 2 * now.i + 1 in
    let next : at + 2 ≡ 2 * (now.i + 1) + 1 = omega arith in (
      length-set now.out _ _ ∙ now.invariant.0,
      odds-more at _ (poly f) now.out (omega arith) (omega (arith, now.invariant.0)) now.invariant.1
          (sym (poly-at f at (omega arith) ∙ val_of _))
          ∙ ap (λ j. cut j (odd (poly f))) next,
    )

pub returns : goal.returns
returns c =
    let end = c.loop-i in
    let at = 2 * end.i + 1 in
    end.invariant.1 ∙ odds-all c.args.k at _ (omega arith) (omega arith) (omega arith)
