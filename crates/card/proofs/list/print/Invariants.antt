-- The list is written section after section, and every section brings the end nearer.
use Rattle.std.proofs.Common.{length, ◌≡◌}
use Rattle.card.specs.SectionDefinition.{left}
use Rattle.card.specs.Definition.{Kept}
use Rattle.card.specs.ListDefinition.{Reached}
use Rattle.card.proofs.list.print.Given as goal

abbrev pub invariant-loop-input : goal.invariant-loop-input
invariant-loop-input l = (length l.bytes ≡ 2040) × Reached l.s l.x × Kept l.s l.t l.u

abbrev pub decreases-loop-input : goal.decreases-loop-input
decreases-loop-input l = left l.s
