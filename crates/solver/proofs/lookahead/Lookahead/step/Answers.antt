-- The lines of the definition, one by one.
use Rattle.solver.specs.LookaheadView.{lookahead}
use Rattle.solver.proofs.lookahead.Lookahead.step.Goals as goal

pub returns : goal.returns
unfolding lookahead
returns c = cc
