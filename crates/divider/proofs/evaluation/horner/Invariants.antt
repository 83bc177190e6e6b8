-- The first j values stand.
use Rattle.std.proofs.Common.{length, ◌+◌, ◌≡◌}
use Rattle.field.specs.Field.{◌⊕◌, ◌⊙◌, of}
use Rattle.series.specs.Shift.{cut}
use Rattle.series.specs.Array.{bytes}
use Rattle.divider.proofs.evaluation.horner.Given as goal

abbrev pub invariant-loop-j : goal.invariant-loop-j
invariant-loop-j l = (length l.out ≡ 32) × (bytes l.out ≡ cut l.j (λ q. bytes l.v q ⊙ bytes l.x (l.i + q) ⊕ of l.s))
