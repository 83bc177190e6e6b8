-- Decoding has gone through stage r, if it had gone through stage 0 before the loop.
use Rattle.std.proofs.Common.{◌-◌, ◌≤◌}
use Rattle.series.specs.Series.{Series}
use Rattle.solver.specs.declared.Form.{Form}
use Rattle.stages.specs.Walk.{At}
use Rattle.stages.proofs.run.Given as goal

abbrev pub invariant-loop-table : goal.invariant-loop-table
invariant-loop-table l =
    (l.r ≤ l.p.nested)
    × ((f : Form) (y : Series) → At l.p f y 0 l.initial.block l.initial.states l.initial.table
    → At l.p f y l.r l.block l.states l.table)

abbrev pub decreases-loop-table : goal.decreases-loop-table
decreases-loop-table l = l.p.nested - l.r
