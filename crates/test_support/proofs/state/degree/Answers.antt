use Rattle.std.proofs.Common.{arith, refl, sym, ◌∙◌, ◌≡◌, ◌-◌}
use Rattle.test_support.specs.Laws.{top-here, top_below, top-none}
use Rattle.test_support.proofs.state.degree.Goals as goal

pub loop-n-init : goal.loop-n-init
loop-n-init c = (omega arith, refl)

pub returns-then-f-n-ne0 : goal.returns-then-f-n-ne0
returns-then-f-n-ne0 c =
    let now = c.loop-n in
    sym (top-here _ (now.n - 1) c.if-f-n-ne0.true) ∙ now.invariant.1

pub loop-n-preserved : goal.loop-n-preserved
loop-n-preserved c =
    let now = c.loop-n in
    (omega arith, top_below _ (now.n - 1) (omega arith) c.if-f-n-ne0.false ∙ now.invariant.1)

pub returns : goal.returns
returns c =
    let end = c.loop-n in
    let none : end.n - 1 ≡ 0 = omega arith in
    sym (top-none _) ∙ rw none at end.invariant.1
