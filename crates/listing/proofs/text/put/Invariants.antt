-- The first bytes of the text are appended.
use Rattle.std.proofs.Common.{take}
use Rattle.listing.specs.Definition.{Stored}
use Rattle.listing.proofs.text.put.Given as goal

abbrev pub invariant-loop-b : goal.invariant-loop-b
invariant-loop-b l = Stored l.at (take l.b-index l.text) l.initial.to l.end l.to
