-- v holds the values of the symbols from p on.
use Rattle.std.proofs.Common.{length}
use Rattle.series.specs.Array.{bytes}
use Rattle.divider.specs.EvaluationLanes.{Horner}
use Rattle.divider.proofs.evaluation.block.Given as goal

abbrev pub invariant-loop-p : goal.invariant-loop-p
invariant-loop-p l = Horner (length l.r) (bytes l.r) l.x l.i l.p l.v
