use Rattle.std.proofs.Common.{arith, sym, ◌∙◌}
use Rattle.polynomial.specs.Polynomial.{below_row}
use Rattle.key_equation.specs.Ahead.{δ_convolution}
use Rattle.solver.specs.SwapIterations.{iterating-none, iterating-more, iterating-all}
use Rattle.solver.specs.PlainView.{plain}
use Rattle.solver.proofs.plain.PlainState.run.Goals as goal

pub loop-r-init : goal.loop-r-init
loop-r-init c = λ S b e. iterating-none

pub loop-r-preserved : goal.loop-r-preserved
unfolding plain
loop-r-preserved c =
    let now = c.loop-r in
    λ S b e. iterating-more (now.invariant S b e) (omega arith)
    (c.step-p.ensures S (c.convolve_reversed-d.ensures S b e ∙ sym (δ_convolution _ _ _)))

pub returns : goal.returns
returns c =
    let end = c.loop-r in
    let table = c.reversed-table.ensures in
    iterating-all (λ r. plain r end.p) (end.invariant _ (below_row _) table) (omega arith)
