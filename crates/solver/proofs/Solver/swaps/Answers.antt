-- The form that it has decides.
use Rattle.solver.specs.Solver.{for-form}
use Rattle.solver.proofs.Solver.swaps.Goals as goal

pub returns-in-Plain : goal.returns-in-Plain
returns-in-Plain c = for-form _ _ _ c.in-Plain.is c.swaps.ensures

pub returns-in-Lookahead : goal.returns-in-Lookahead
returns-in-Lookahead c = for-form _ _ _ c.in-Lookahead.is c.swaps-in-Lookahead.ensures

pub returns-in-Scaled : goal.returns-in-Scaled
returns-in-Scaled c = for-form _ _ _ c.in-Scaled.is c.swaps-in-Scaled.ensures
