-- Before iteration r, r - from iterations are made.
use Rattle.std.proofs.Common.{◌≡◌}
use Rattle.series.specs.Series.{Series}
use Rattle.series.specs.Degree.{below}
use Rattle.series.specs.Array.{bytes}
use Rattle.polynomial.specs.SyndromesReversed.{reversed}
use Rattle.solver.specs.SwapIterations.{Iterating}
use Rattle.solver.specs.PlainView.{plain}
use Rattle.solver.specs.Solver.{iterate_clipped}
use Rattle.solver.specs.declared.Form.TheVariants as Form
use Rattle.solver.proofs.plain.PlainState.run.Given as goal

abbrev pub invariant-loop-r : goal.invariant-loop-r
invariant-loop-r l =
    (S : Series) → below 48 S → bytes l.table ≡ reversed 95 S
    → Iterating (iterate_clipped Form.Plain S) l.from l.to (plain l.from l.initial.p) l.r (plain l.r l.p)
