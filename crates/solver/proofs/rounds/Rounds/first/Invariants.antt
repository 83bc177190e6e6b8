-- Entry i gets syndrome i.
use Rattle.series.specs.Array.{bytes, Filled}
use Rattle.solver.proofs.rounds.Rounds.first.Given as goal

abbrev pub invariant-loop-i : goal.invariant-loop-i
invariant-loop-i l = Filled 48 l.i (bytes l.self.syndromes.now) l.s
