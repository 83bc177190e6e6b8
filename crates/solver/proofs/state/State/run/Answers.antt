use Rattle.std.proofs.Common.{arith}
use Rattle.solver.specs.SwapIterations.{iterating-none, iterating-more, iterating-all}
use Rattle.solver.proofs.state.State.run.Goals as goal

pub loop-r-init : goal.loop-r-init
loop-r-init g c = iterating-none

pub loop-r-preserved : goal.loop-r-preserved
loop-r-preserved g c = iterating-more c.loop-r.invariant (omega arith) c.iterate-p.ensures

pub returns : goal.returns
returns g c = let end = c.loop-r in iterating-all (λ r. g.Self.State.view r end.p) end.invariant (omega arith)
