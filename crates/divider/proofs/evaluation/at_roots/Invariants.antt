-- Zeros if the word is zero; if not, the first i syndromes stand, and v holds the block of the last.
use Rattle.std.proofs.Common.{length, ◌%◌, ◌-◌, ◌<◌}
use Rattle.series.specs.Array.{bytes, Filled}
use Rattle.code.specs.Word.{syndrome}
use Rattle.divider.specs.EvaluationLanes.{Lanes}
use Rattle.divider.proofs.evaluation.at_roots.Given as goal

abbrev pub invariant-loop-i : goal.invariant-loop-i
invariant-loop-i l =
    Filled 48 l.i (syndrome l.first (length l.r) (bytes l.r)) l.out
    × (0 < l.i % 32 → Lanes (length l.r) (bytes l.r) l.x (l.i - l.i % 32) l.v)
