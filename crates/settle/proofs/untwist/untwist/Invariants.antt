-- The first p symbols stand.
use Rattle.series.specs.Array.{values, Filled}
use Rattle.settling.specs.Twist.{untwist}
use Rattle.settle.proofs.untwist.untwist.Given as goal

abbrev pub invariant-loop-p : goal.invariant-loop-p
invariant-loop-p l = Filled 255 l.p (untwist l.first (values l.pattern)) l.out
