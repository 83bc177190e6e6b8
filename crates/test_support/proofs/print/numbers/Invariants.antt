-- The first numbers are appended.
use Rattle.listing.specs.Definition.{Appended}
use Rattle.test_support.specs.Text.{each, number_at}
use Rattle.test_support.proofs.print.numbers.Given as goal

abbrev pub invariant-loop-x : goal.invariant-loop-x
invariant-loop-x g l = Appended g.row.N (each (number_at l.s) l.x-index) l.initial.line l.line
