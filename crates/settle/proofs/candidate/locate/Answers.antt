-- Where there is one root its two coefficients are not zero; else the walk answers.
use Rattle.std.proofs.Common.{arith, subst, sym, ◌+◌, ◌∙◌, ◌≡◌}
use Rattle.field.specs.Field.{is_zero_false}
use Rattle.series.specs.Array.{bytes}
use Rattle.polynomial.specs.Polynomial.{poly, poly-at}
use Rattle.settle.specs.CandidateLocated.{Walked}
use Rattle.settle.proofs.candidate.locate.Goals as goal

pub locate_one-requires : goal.locate_one-requires
locate_one-requires c =
    let f = c.args.locator in (
      omega arith,
      omega arith,
      λ z. is_zero_false _ (sym c.is_zero.ensures
          ∙ c.if-not-is_zero.true) (sym (poly-at f 0 (omega arith)) ∙ z),
      λ z. is_zero_false _ (sym c.is_zero-then-not-is_zero.ensures ∙ c.if-not-is_zero-2.true)
          (sym (poly-at f 1 (omega arith)) ∙ z),
    )

pub returns-then-not-is_zero-2 : goal.returns-then-not-is_zero-2
returns-then-not-is_zero-2 c =
    let given = c.args in
    let e : 1 ≡ given.roots = omega arith in
    subst (λ l. Walked given.n (l + 1) l (poly given.locator) (bytes given.numerator.now)
    c.locate_one.result) e c.locate_one.ensures
