-- The sum over the symbols before p is the part that they have in the value.
use Rattle.std.proofs.Common.{List, ℕ, ◌-◌, ◌≡◌, ◌≤◌}
use Rattle.field.specs.Field.{F, ◌⊕◌, of}
use Rattle.series.specs.Value.{value as Value}
use Rattle.series.specs.Array.{bytes}
use Rattle.binary.specs.Received.{PowersOf, Masks}
use Rattle.binary.proofs.received.part.Given as goal

abbrev pub invariant-loop-p : goal.invariant-loop-p
invariant-loop-p l =
    (l.p ≤ l.to) × ((x : F) (w : List ℕ) → PowersOf x l.table → Masks w l.masks
    → of l.sum ≡ Value l.p (bytes w) x ⊕ Value l.from (bytes w) x)

abbrev pub decreases-loop-p : goal.decreases-loop-p
decreases-loop-p l = l.to - l.p
