-- The round's entry, then its iterations.
use Rattle.solver.proofs.continuation.advance.Goals as goal

pub returns : goal.returns
returns c f m h = c.run.ensures f _ (c.enter.ensures f m h)
