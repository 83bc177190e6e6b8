-- The changes at the first i positions are appended.
use Rattle.listing.specs.Definition.{Appended}
use Rattle.test_support.specs.Text.{each, change_at}
use Rattle.test_support.proofs.print.changes.Given as goal

abbrev pub invariant-loop-i : goal.invariant-loop-i
invariant-loop-i g l = Appended g.row.N (each (change_at l.x l.y) l.i) l.initial.line l.line
