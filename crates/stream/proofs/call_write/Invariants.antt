-- The tries are counted down, and the answer is the last call's.
use Rattle.std.specs.Io.{WritesAtMost}
use Rattle.stream.proofs.call_write.Given as goal

abbrev pub invariant-loop-moved : goal.invariant-loop-moved
invariant-loop-moved l = WritesAtMost l.moved l.buf

abbrev pub decreases-loop-moved : goal.decreases-loop-moved
decreases-loop-moved l = l.tries
