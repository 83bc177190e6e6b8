-- Line 3.
use Rattle.std.proofs.Common.{arith, sym, ◌∙◌}
use Rattle.field.specs.Field.{◌⊕◌, ◌⊙◌}
use Rattle.polynomial.specs.Polynomial.{poly-at}
use Rattle.solver.specs.LookaheadView.{lookahead}
use Rattle.solver.proofs.lookahead.Lookahead.next_delta_s.Goals as goal

pub returns : goal.returns
unfolding lookahead
returns c =
    let given = c.args.self in
    let m = lookahead 0 given in
    let Λ0 = sym (poly-at given.locator 0 (omega arith)) in
    let Δ0 = sym (poly-at given.delta 0 (omega arith)) in
    let Δ1 = sym (poly-at given.delta 1 (omega arith)) in
    let left = c.two_products-left.ensures ∙ λ i. m.h1 ⊙ Δ1 i ⊕ m.h2 ⊙ Λ0 i in
    let right = c.product.ensures ∙ λ i. Δ0 i ⊙ m.θS in
    c.sum.ensures ∙ λ i. left i ⊕ right i
