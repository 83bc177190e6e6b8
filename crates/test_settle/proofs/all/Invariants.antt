-- The loop ends: what is left of the input falls.
use Rattle.std.proofs.Common.{length}
use Rattle.test_settle.proofs.all.Given as goal

abbrev pub decreases-loop-left : goal.decreases-loop-left
decreases-loop-left l = length l.left
