use Rattle.std.proofs.Common.{ap, arith, ◌∙◌, ◌≡◌}
use Rattle.field.specs.Field.{val_of}
use Rattle.series.specs.Shift.{cut}
use Rattle.series.specs.Array.{bytes, filled_none, filled_more}
use Rattle.polynomial.specs.Polynomial.{row-values}
use Rattle.test_support.proofs.input.row.Goals as goal

pub loop-i-init : goal.loop-i-init
loop-i-init c = filled_none 48 _

pub loop-i-preserved : goal.loop-i-preserved
loop-i-preserved c = filled_more _ c.loop-i.invariant (omega arith) (val_of _ ∙ c.at.ensures)

pub returns : goal.returns
returns c =
    let end = c.loop-i in
    let all : end.i ≡ 48 = omega arith in
    row-values _ end.invariant.long ∙ end.invariant.is ∙ ap (λ k. cut k (bytes c.args.word.now)) all
