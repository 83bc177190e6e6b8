-- Entry i gets byte i.
use Rattle.series.specs.Array.{bytes, Filled}
use Rattle.test_support.proofs.input.row.Given as goal

abbrev pub invariant-loop-i : goal.invariant-loop-i
invariant-loop-i l = Filled 48 l.i (bytes l.word) l.s
