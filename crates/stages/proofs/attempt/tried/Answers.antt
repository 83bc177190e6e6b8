-- The locator is a multiple of the measure's, and the length is the measure's.
use Rattle.solver.specs.ContinuationEnd.{ended-locator, ended-length}
use Rattle.stages.proofs.attempt.tried.Goals as goal

pub returns : goal.returns
returns c = (
  c.settle.ensures.sound,
  λ f rounds ended are. c.settle.ensures.settled
      (ended-locator rounds _ _ are f _ ended _ c.locator-locator.ensures)
      (ended-length rounds _ _ are f _ ended _ c.length.ensures.has_length),
)
