-- Two constants one, the rest zero, and k = 0 - 2·0.
use Rattle.field.specs.Field.{val-zero, val-one}
use Rattle.key_equation.specs.Length.{k_of-start}
use Rattle.solver.specs.LookaheadView.{lookahead}
use Rattle.solver.proofs.lookahead.LookaheadState.start.Goals as goal

pub returns : goal.returns
unfolding lookahead
returns c = cc (val-one, val-zero, k_of-start)
