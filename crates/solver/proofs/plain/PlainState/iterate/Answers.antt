-- A step with the discrepancy.
use Rattle.solver.proofs.plain.PlainState.iterate.Goals as goal

pub returns : goal.returns
returns c = c.step.ensures _ c.discrepancy.ensures
