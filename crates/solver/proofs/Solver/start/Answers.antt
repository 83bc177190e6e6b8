-- The named form is at its start.
use Rattle.std.proofs.Common.{refl}
use Rattle.solver.proofs.Solver.start.Goals as goal

pub returns-in-Plain : goal.returns-in-Plain
returns-in-Plain c = rw c.in-Plain.is (refl, c.start.ensures)

pub returns-in-Lookahead : goal.returns-in-Lookahead
returns-in-Lookahead c = rw c.in-Lookahead.is (refl, c.start-in-Lookahead.ensures)

pub returns-in-Scaled : goal.returns-in-Scaled
returns-in-Scaled c = rw c.in-Scaled.is (refl, c.start-in-Scaled.ensures)
