-- The lines of the definition, one by one; a swap has room for the new length.
use Rattle.std.proofs.Common.{sym, ◌∙◌}
use Rattle.polynomial.specs.Polynomial.{below-poly}
use Rattle.solver.specs.PlainView.{plain}
use Rattle.solver.specs.SwapStep.{swap-room, hold-k}
use Rattle.solver.specs.PlainStep.{plain-swap, plain-hold}
use Rattle.solver.proofs.plain.Plain.step.Goals as goal

pub next_length-requires : goal.next_length-requires
next_length-requires c =
    let given = c.args in
    swap-room _ given.r given.self.length (sym c.swaps.ensures ∙ c.if-swaps.true)

pub returns-then-swaps : goal.returns-then-swaps
unfolding plain
returns-then-swaps c S d =
    let given = c.args in
    plain-swap given.r S (plain given.r given.self) _ _ _ _ (below-poly _)
    d c.times_z-zb.ensures c.combine-locator.ensures
    (sym c.swaps.ensures ∙ c.if-swaps.true) c.next_length.ensures

pub returns : goal.returns
unfolding plain
returns c S d =
    let given = c.args in
    plain-hold given.r S (plain given.r given.self) _ _ _ _ (below-poly _)
    d c.times_z-zb.ensures c.combine-locator.ensures
    (sym c.swaps.ensures ∙ c.if-swaps.false) (hold-k _ _)
