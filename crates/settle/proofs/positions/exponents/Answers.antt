use Rattle.std.proofs.Common.{ap, arith, length-set, rules, sym, ◌∙◌, ◌≡◌}
use Rattle.series.specs.Shift.{cut}
use Rattle.series.specs.Array.{read-zeros, read_store}
use Rattle.polynomial.specs.Polynomial.{poly, poly-at}
use Rattle.settle.specs.PositionsExponent.{lane, symbol-none}
use Rattle.settle.proofs.positions.exponents.Goals as goal

pub loop-i-init : goal.loop-i-init
loop-i-init c = (search rules, read-zeros lane _ symbol-none 32 _)

pub loop-i-preserved : goal.loop-i-preserved
loop-i-preserved c =
    let now = c.loop-i in
    let (long, is) = now.invariant in (
      length-set now.out _ _ ∙ long,
      read_store lane _ now.out now.i _ _ (omega (arith, long)) is
          (c.exponent.ensures ∙ sym (poly-at c.args.f now.i (omega arith))),
    )

pub returns : goal.returns
returns c =
    let end = c.loop-i in
    let given = c.args in
    let e : end.i ≡ given.k = omega arith in
    end.invariant.1 ∙ ap (λ i. cut i (poly given.f)) e
