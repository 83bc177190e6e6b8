-- The subwords below i have gone through the stage.
use Rattle.solver.specs.declared.Form.{Form}
use Rattle.stages.specs.View.{view, Before}
use Rattle.stages.specs.Stage.{Mid}
use Rattle.stages.proofs.stage.Given as goal

abbrev pub invariant-loop-i : goal.invariant-loop-i
invariant-loop-i l =
    (f : Form) → Before l.p f l.r (view l.initial.block l.initial.states l.table) l.initial.states
    → Mid l.p f l.r (view l.initial.block l.initial.states l.table) l.i l.block l.states l.table
