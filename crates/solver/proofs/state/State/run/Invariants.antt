-- Before iteration r, r - from iterations are made.
use Rattle.polynomial.specs.Polynomial.{row}
use Rattle.solver.specs.SwapIterations.{Iterating}
use Rattle.solver.specs.Solver.{iterate_clipped}
use Rattle.solver.proofs.state.State.run.Given as goal

abbrev pub invariant-loop-r : goal.invariant-loop-r
invariant-loop-r g l =
    let t = g.Self.State in
    Iterating (iterate_clipped t.form (row l.s)) l.from l.to (t.view l.from l.initial.p) l.r (t.view l.r l.p)
