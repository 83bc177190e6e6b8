use Rattle.std.proofs.Common.{ap, arith, length, length-take-le, sym, ◌∙◌}
use Rattle.field.specs.Field.{of, of_zero, val, is_zero_true, is_zero_false}
use Rattle.series.specs.Series.{Series}
use Rattle.series.specs.Shift.{cut_low}
use Rattle.series.specs.Array.{read_at, below-read}
use Rattle.polynomial.specs.CoefficientsOdd.{odds-value}
use Rattle.settle.specs.CandidateLocated.{walking_start, walking-root}
use Rattle.settle.specs.CandidateLocated.{walking-other, walked_all, walked-few}
use Rattle.settle.proofs.candidate.walk.Goals as goal
use Rattle.settle.proofs.candidate.walk.Goals.{then-is_zero, else-is_zero}

pub loop-p-init : goal.loop-p-init
loop-p-init c = λ Λ is odd_is. walking_start

pub returns-then-missing-eq0 : goal.returns-then-missing-eq0
returns-then-missing-eq0 c =
    walked_all (c.loop-p.invariant _ c.at_positions-values.ensures c.odd-odds.ensures) _ (omega arith)
    c.if-missing-eq0.true

pub returns-then-n-p : goal.returns-then-n-p
returns-then-n-p c =
    walked-few (c.loop-p.invariant _ c.at_positions-values.ensures c.odd-odds.ensures) _ (omega arith) (omega arith)

pub slice_bounds-forney-end : goal.slice_bounds-forney-end
slice_bounds-forney-end c = sym (length-take-le _ c.odd-odds.result (omega arith))

pub loop-p-preserved : goal.loop-p-preserved
loop-p-preserved c =
    let now = c.loop-p in
    let made = c.odd-odds.result in
    let test = sym c.is_zero.ensures in
    λ Λ is odd_is.
    let at = now.invariant Λ is odd_is in
    let here = sym (cut_low 255 _ now.p (omega arith)) ∙ ap (λ (f : Series). f now.p) (sym is)
    ∙ read_at val _ _ now.p in
    elim c.if-is_zero.branch [
      | then-is_zero w ↦
          walking-root at (length c.args.numerator.now) _ _ _ _ (here
          ∙ is_zero_true _ (test ∙ w.if-is_zero.true)) (below-read of 0 of_zero _) c.requires.2 (omega arith)
          (omega arith) w.forney.ensures (odds-value _ Λ made _ (omega arith) odd_is) w.pattern-is w.missing-is
      | else-is_zero w ↦
          walking-other at _ _ (λ z. is_zero_false _ (test ∙ w.if-is_zero.false) (sym here ∙ z))
          w.pattern-is w.missing-is
    ]

pub returns-then-missing-eq0-2 : goal.returns-then-missing-eq0-2
returns-then-missing-eq0-2 c =
    walked_all (c.loop-p.invariant _ c.at_positions-values.ensures c.odd-odds.ensures) _ (omega arith)
    c.if-missing-eq0-2.true

pub returns-else-missing-eq0-2 : goal.returns-else-missing-eq0-2
returns-else-missing-eq0-2 c =
    walked-few (c.loop-p.invariant _ c.at_positions-values.ensures c.odd-odds.ensures) _ (omega arith) (omega arith)
