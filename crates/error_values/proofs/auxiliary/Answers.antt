-- The form that it has gives its B.
use Rattle.std.proofs.Common.{refl}
use Rattle.solver.specs.PlainView.{plain}
use Rattle.solver.specs.LookaheadView.{lookahead}
use Rattle.solver.specs.ScaledView.{scaled}
use Rattle.solver.specs.Solver.{for-form}
use Rattle.error_values.proofs.auxiliary.Goals as goal

pub returns-in-Plain : goal.returns-in-Plain
unfolding plain
returns-in-Plain c r = for-form _ _ r c.in-Plain.is refl

pub returns-in-Lookahead : goal.returns-in-Lookahead
unfolding lookahead
returns-in-Lookahead c r = for-form _ _ r c.in-Lookahead.is refl

pub returns-in-Scaled : goal.returns-in-Scaled
unfolding scaled
returns-in-Scaled c r = for-form _ _ r c.in-Scaled.is refl
