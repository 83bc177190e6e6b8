use Rattle.std.proofs.Common.{arith, below_more, below_none, sym, ◌∙◌}
use Rattle.series.specs.Decide.{holds_yes, holds_no}
use Rattle.polynomial.specs.SyndromesZero.{zero_row, zero_not}
use Rattle.block.specs.CodewordDefinition.{zeros?}
use Rattle.block.proofs.codeword.is_zero.Goals as goal

pub loop-row-init : goal.loop-row-init
loop-row-init c = below_none _

pub returns-then-not-is_zero : goal.returns-then-not-is_zero
returns-then-not-is_zero c =
    let now = c.loop-row in
    let rows = c.args.rows in
    sym (holds_no (zeros? rows)
    (λ z. zero_not _ (sym c.is_zero.ensures ∙ c.if-not-is_zero.true) (z now.row-index (omega arith))))

pub loop-row-preserved : goal.loop-row-preserved
loop-row-preserved c =
    let now = c.loop-row in
    below_more _ now.row-index now.invariant (zero_row _ (sym c.is_zero.ensures ∙ c.if-not-is_zero.false))

pub returns : goal.returns
returns c =
    let rows = c.args.rows in
    let end = c.loop-row in
    sym (holds_yes (zeros? rows) (λ i h. end.invariant i (omega (arith, end.auto, c.loop-row-test.false))))
