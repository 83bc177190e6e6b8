-- The solver of the run is where the run is, so its length is least there.
use Rattle.key_equation.specs.Recurrence.{complexity-end}
use Rattle.solver.specs.RoundsRun.{ran-stands}
use Rattle.solver.proofs.rounds.linear_complexity.Goals as goal

pub returns : goal.returns
returns c =
    let after = c.length.ensures.least _ _ _ (ran-stands _ _ _ _ c.run-end.ensures) in
    record {
      complexity_after = after;
      whole = complexity-end _ _ _ after;
    }
