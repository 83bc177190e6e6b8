-- The rows of the first subwords stand.
use Rattle.std.proofs.Common.{◌*◌}
use Rattle.series.specs.Array.{bytes}
use Rattle.block.specs.ReceivedRows.{FirstRows}
use Rattle.block.proofs.received.syndromes.Given as goal

abbrev pub invariant-loop-q : goal.invariant-loop-q
invariant-loop-q l = FirstRows l.p (bytes l.block) (4 * l.q) l.out

abbrev pub invariant-loop-i : goal.invariant-loop-i
invariant-loop-i l = FirstRows l.p (bytes l.block) l.i l.out
