-- The form that it has goes on.
use Rattle.std.proofs.Common.{refl}
use Rattle.solver.specs.Solver.{for-form}
use Rattle.solver.proofs.Solver.run.Goals as goal

pub returns-in-Plain : goal.returns-in-Plain
returns-in-Plain c = for-form _ _ _ c.in-Plain.is (refl, c.run.ensures)

pub returns-in-Lookahead : goal.returns-in-Lookahead
returns-in-Lookahead c = for-form _ _ _ c.in-Lookahead.is (refl, c.run-in-Lookahead.ensures)

pub returns-in-Scaled : goal.returns-in-Scaled
returns-in-Scaled c = for-form _ _ _ c.in-Scaled.is (refl, c.run-in-Scaled.ensures)
