-- The solver that is ready is taken to the end of the stage, and its locator tried.
use Rattle.stages.specs.AttemptReady.{kept}
use Rattle.stages.proofs.attempt.attempt.Goals as goal

pub returns : goal.returns
returns c =
    kept _ c.requires.0 _ c.requires.1 _ _ _ _ _ _ _ c.seen_before.ensures
    c.seen.ensures
    c.correctable-t.ensures.0 c.advance-solver.ensures c.tried.ensures
