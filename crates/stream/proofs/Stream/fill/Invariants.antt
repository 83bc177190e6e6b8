-- The bytes of each read come after those of the reads before it.
use Rattle.std.proofs.Common.{length, take, ◌-◌, ◌≤◌}
use Rattle.stream.specs.Definition.{Took}
use Rattle.stream.proofs.Stream.fill.Given as goal

abbrev pub invariant-loop-at : goal.invariant-loop-at
invariant-loop-at l = (l.at ≤ length l.buf) × Took l.initial.self (take l.at l.buf) l.self

abbrev pub decreases-loop-at : goal.decreases-loop-at
decreases-loop-at l = length l.buf - l.at
