use Rattle.std.proofs.Common.{ap, arith, length, rules, sym, ◌%◌, ◌+◌, ◌-◌, ◌∙◌, ◌≡◌}
use Rattle.field.specs.Field.{of, val_of}
use Rattle.series.specs.Shift.{cut}
use Rattle.series.specs.Array.{bytes, bytes-entry, read_at, filled_none, filled_more}
use Rattle.polynomial.specs.Polynomial.{row-values, row-zeros}
use Rattle.code.specs.Word.{syndrome}
use Rattle.divider.specs.EvaluationLanes.{lanes-syndrome}
use Rattle.divider.specs.EvaluationZero.{zero-syndromes}
use Rattle.divider.proofs.evaluation.at_roots.Goals as goal

pub returns-then-is_zero : goal.returns-then-is_zero
returns-then-is_zero c = row-zeros ∙ zero-syndromes _ _ _ _ (bytes-entry _ ∙ c.is_zero.ensures.0 c.if-is_zero.true)

pub loop-i-init : goal.loop-i-init
loop-i-init c = (filled_none 48 _, λ h. absurd (omega arith))

pub lanes-u-requires : goal.lanes-u-requires
lanes-u-requires c = (search rules, omega (arith, c.requires, c.loop-i-test.true), c.loop-i.invariant.1)

pub bounds-u-i : goal.bounds-u-i
bounds-u-i c = omega arith

pub loop-i-preserved : goal.loop-i-preserved
loop-i-preserved c =
    let now = c.loop-i in
    let first = c.args.first in
    let r = c.args.r.now in
    let i = now.i in
    let u = c.lanes-u.result in
    let e : i - i % 32 + i % 32 ≡ i = omega arith in
    let here = sym (read_at of 0 u (i % 32))
    ∙ lanes-syndrome first (length r) (bytes r) _ (i - i % 32) u (i % 32) c.roots-x.ensures c.lanes-u.ensures
    (omega arith) (omega (arith, c.requires, c.loop-i-test.true))
    ∙ ap (syndrome first (length r) (bytes r)) e in (
      filled_more _ now.invariant.0 (omega arith) (val_of _ ∙ here),
      λ h. let s : i + 1 - (i + 1) % 32 ≡ i - i % 32 = omega arith in rw s c.lanes-u.ensures,
    )

pub returns : goal.returns
returns c =
    let end = c.loop-i in
    let given = c.args in
    let word = given.r.now in
    let e : end.i ≡ given.k = omega (arith, end.auto) in
    row-values _ end.invariant.0.long ∙ end.invariant.0.is
    ∙ ap (λ i. cut i (syndrome given.first (length word) (bytes word))) e
