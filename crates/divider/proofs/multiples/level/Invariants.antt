-- The first i rows of the level stand.
use Rattle.divider.specs.Packed.{packed}
use Rattle.divider.specs.MultiplesBuilding.{Added}
use Rattle.divider.proofs.multiples.level.Given as goal

abbrev pub invariant-loop-i : goal.invariant-loop-i
invariant-loop-i g l = Added g.W.Width.row_at l.w l.i (packed l.r) l.initial.t l.t
