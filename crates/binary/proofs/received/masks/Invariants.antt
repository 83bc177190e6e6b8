-- The first p symbols are masks.
use Rattle.std.proofs.Common.{length, ◌-◌, ◌≤◌}
use Rattle.binary.specs.ReceivedLaws.{Masking}
use Rattle.binary.proofs.received.masks.Given as goal

abbrev pub invariant-loop-p : goal.invariant-loop-p
invariant-loop-p l = (l.p ≤ length l.word) × Masking l.word l.out l.p

abbrev pub decreases-loop-p : goal.decreases-loop-p
decreases-loop-p l = length l.word - l.p
