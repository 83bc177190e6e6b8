-- Each pass of the loop is the next event of the run.
use Rattle.solver.specs.RoundsRun.{syndromes_of}
use Rattle.solver.specs.RoundsEvent.{Arrived}
use Rattle.solver.proofs.rounds.run.Given as goal

abbrev pub invariant-loop : goal.invariant-loop
invariant-loop l = Arrived l.fn.form (syndromes_of l.syndromes) l.lengths l.counter l.w
