use Rattle.std.proofs.Common.{ap, ap₂, arith, length-set, rules, sym, ◌+◌, ◌-◌, ◌∙◌, ◌≡◌}
use Rattle.field.specs.Field.{◌⊕◌, of, of_xor, of_zero}
use Rattle.series.specs.Series.{Series, ◌⊞◌, ⊞-at}
use Rattle.series.specs.Shift.{cut, drop, drop_at}
use Rattle.series.specs.Array.{bytes, read_at, read-zeros, read_store}
use Rattle.divider.proofs.reed_solomon.difference.Goals as goal

pub loop-q-init : goal.loop-q-init
loop-q-init c = (search rules, read-zeros of 0 of_zero 48 _)

pub loop-q-preserved : goal.loop-q-preserved
loop-q-preserved c =
    let now = c.loop-q in
    let word = c.args.word.now in
    let checks = c.unpack-checks.result in
    let above = 48 - c.args.k in
    let check = drop_at above (bytes checks) now.q ∙ read_at of 0 checks (above + now.q) in (
      length-set now.out now.q _ ∙ now.invariant.0,
      read_store of 0 now.out now.q _ _ (omega (arith, now.invariant.0, c.requires.0)) now.invariant.1
          (of_xor _ _
          ∙ sym (⊞-at (bytes word) (drop above (bytes checks)) now.q ∙ ap₂ ◌⊕◌ (read_at of 0 word now.q) check)),
    )

pub returns : goal.returns
returns c =
    let end = c.loop-q in
    let k = c.args.k in
    let e : end.q ≡ k = omega arith in
    (rw e at end.invariant.1)
    ∙ ap (λ (f : Series). cut k (bytes c.args.word.now ⊞ drop (48 - k) f)) c.unpack-checks.ensures
