-- Each way out keeps its promises.
use Rattle.std.proofs.Common.{arith, length-take-le, sym}
use Rattle.series.specs.Array.{values}
use Rattle.series.specs.Word.{weight_le}
use Rattle.settle.specs.Answer.{prefix-is, long, few, refused, found}
use Rattle.settle.proofs.settle_at_alpha.Goals as goal

pub returns-then-t-length : goal.returns-then-t-length
returns-then-t-length c = long _ _ _ _ _ c.requires.0 c.if-t-length.true

pub slice_bounds-locate-end : goal.slice_bounds-locate-end
slice_bounds-locate-end c = sym (length-take-le _ c.numerator-numerator.result (omega arith))

pub locate-requires : goal.locate-requires
locate-requires c = (
  omega arith,
  omega arith,
  omega (arith, length-take-le c.args.length c.numerator-numerator.result (omega arith)),
)

pub returns-in_err-pattern : goal.returns-in_err-pattern
returns-in_err-pattern c =
    rw c.from_residual.ensures (few _ _ _ _ _ c.requires.0 _ (omega arith) c.in_err-pattern.ensures)

pub returns-in_err-count : goal.returns-in_err-count
returns-in_err-count c =
    rw c.from_residual-in_err-count.ensures
    (refused _ _ _ _ _ c.requires.0 _ (omega arith) _ _ c.in_ok-pattern.ensures c.if-t-length.false
    (prefix-is _ _ _ (omega arith) c.numerator-numerator.ensures) c.in_err-count.ensures)

pub overflow_cast-result : goal.overflow_cast-result
overflow_cast-result c =
    let (count, _) = c.in_ok-count.ensures in
    record { fits = omega (arith, count, weight_le c.args.n (values c.in_ok-pattern.pattern)) }

pub returns : goal.returns
returns c =
    let (count, explains) = c.in_ok-count.ensures in
    found _ _ _ _ _ c.requires.0 _ (omega arith) _ _ c.in_ok-pattern.ensures _ count explains
