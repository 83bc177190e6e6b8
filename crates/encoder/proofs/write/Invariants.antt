-- The subwords from i on are right, and a table was made.
use Rattle.divider.specs.GeneratorTable.{Made}
use Rattle.encoder.specs.Write.{DownTo}
use Rattle.encoder.proofs.write.Given as goal

abbrev pub invariant-loop-i : goal.invariant-loop-i
invariant-loop-i l = DownTo l.p l.input l.out l.i l.end × Made l.first l.made l.t
