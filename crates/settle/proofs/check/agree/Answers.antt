use Rattle.std.proofs.Common.{Fits, ap, arith, below_more, below_none, get_or, rules, sym, w8, ◌∙◌}
use Rattle.field.specs.Field.{of, of_inj, val_of}
use Rattle.series.specs.Array.{bytes, read_at}
use Rattle.series.specs.Decide.{holds_yes, holds_no}
use Rattle.polynomial.specs.Polynomial.{row as Row, row-values}
use Rattle.settle.specs.Effect.{same?}
use Rattle.settle.proofs.check.agree.Goals as goal

pub loop-i-init : goal.loop-i-init
loop-i-init c = below_none _

pub returns-then-l-i : goal.returns-then-l-i
returns-then-l-i c =
    let given = c.args in
    let i = c.loop-i.i in
    let small : Fits w8 (get_or given.l i 0) = search rules in
    sym (holds_no (same? given.m (bytes given.l) (Row given.row))
    (λ all. c.if-l-i.true (of_inj _ _ small.fits (search rules) (sym (read_at of 0 _ _) ∙ all i (omega arith)
    ∙ rw (row-values given.row (search rules)) (read_at _ _ _ _ ∙ val_of _)))))

pub loop-i-preserved : goal.loop-i-preserved
loop-i-preserved c =
    let given = c.args in
    let now = c.loop-i in
    below_more _ now.i now.invariant
    (read_at of 0 _ _ ∙ ap of c.if-l-i.false
    ∙ sym (rw (row-values given.row (search rules)) (read_at _ _ _ _ ∙ val_of _)))

pub returns : goal.returns
returns c =
    let given = c.args in
    let end = c.loop-i in
    sym (holds_yes (same? given.m (bytes given.l) (Row given.row)) (λ j h. end.invariant j (omega arith)))
