-- A swap or a hold.
use Rattle.std.proofs.Common.{sym, ◌∙◌}
use Rattle.key_equation.specs.Lookahead.{iterate}
use Rattle.solver.proofs.lookahead.LookaheadState.iterate.Goals as goal

pub swap-requires : goal.swap-requires
swap-requires c = sym c.swaps.ensures ∙ c.if-swaps.true

pub returns-then-swaps : goal.returns-then-swaps
unfolding iterate
returns-then-swaps c = rw (sym c.swaps.ensures ∙ c.if-swaps.true) c.swap.ensures

pub returns-else-swaps : goal.returns-else-swaps
unfolding iterate
returns-else-swaps c = rw (sym c.swaps.ensures ∙ c.if-swaps.false) c.hold.ensures
