-- The tries are counted down, and the answer is the last call's.
use Rattle.std.proofs.Common.{length, ◌≡◌}
use Rattle.std.specs.Io.{ReadsAtMost}
use Rattle.stream.proofs.call_read.Given as goal

abbrev pub invariant-loop-moved : goal.invariant-loop-moved
invariant-loop-moved l = (length l.buf ≡ length l.initial.buf) × ReadsAtMost l.moved l.buf

abbrev pub decreases-loop-moved : goal.decreases-loop-moved
decreases-loop-moved l = l.tries
