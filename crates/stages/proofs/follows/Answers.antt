-- No round if none is pending, or too many.
use Rattle.std.proofs.Common.{ap, arith, leb, ◌-◌, ◌∙◌, ◌≡◌}
use borrow.Author.Tests.{lt-leb}
use Rattle.stages.specs.View.{waiting}
use Rattle.stages.specs.Walk.{follows-none, follows-some}
use Rattle.stages.proofs.follows.Goals as goal

pub returns-then-b-ge1 : goal.returns-then-b-ge1
returns-then-b-ge1 c =
    let count = c.unsettled-b in
    ap (λ w. leb w (c.args.p.nested - c.args.r)) count.ensures
    ∙ follows-some _ _ (λ z. omega (arith, count.ensures, z))

pub returns-else-b-ge1 : goal.returns-else-b-ge1
returns-else-b-ge1 c =
    let none : waiting c.args.p c.args.states.now ≡ 0 = omega (arith, c.unsettled-b.ensures) in
    lt-leb 1 _ (omega arith) ∙ follows-none _ _ none
