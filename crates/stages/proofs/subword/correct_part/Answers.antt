use Rattle.std.proofs.Common.{ap, arith, refl, rules, sym, zero-add, ◌+◌, ◌∙◌, ◌≡◌}
use lib.Count.{ones}
use Rattle.field.specs.Field.{𝟎, val, byte, is_zero_true}
use Rattle.series.specs.Series.{◌⊞◌, ◌⊠◌, K}
use Rattle.series.specs.Shift.{zpow, cut}
use Rattle.series.specs.Array.{bytes, values, read_at}
use Rattle.polynomial.specs.Polynomial.{clear-part}
use Rattle.staged_decoding.specs.Definition.{bit_weight}
use Rattle.staged_decoding.specs.Differences.{bit_weight_le}
use Rattle.stages.specs.SubwordStage.{added-one, added-zero, added_clear}
use Rattle.stages.specs.SubwordStage.{counted-one, counted-zero, counted_clear}
use Rattle.stages.proofs.subword.correct_part.Goals as goal
use Rattle.stages.proofs.subword.correct_part.Goals.{then-not-is_zero, else-not-is_zero}

pub returns-then-is_zero : goal.returns-then-is_zero
returns-then-is_zero c =
    let e = values c.args.pattern in
    let none = clear-part c.args.pattern c.args.from c.args.to c.requires.0 (search rules)
    (c.is_zero.ensures.0 c.if-is_zero.true) in record {
      block = added_clear c.args.from c.args.to e c.requires.0 none c.args.a _;
      bits = zero-add _ ∙ counted_clear c.args.from c.args.to e c.requires.0 none;
    }

pub loop-q-init : goal.loop-q-init
loop-q-init c = (refl, zero-add _)

pub overflow_add-a : goal.overflow_add-a
overflow_add-a c = record { fits = omega (arith, c.requires.2) }

pub change-bits-requires : goal.change-bits-requires
change-bits-requires c = omega (arith, c.requires.2)

pub overflow_add-bits : goal.overflow_add-bits
overflow_add-bits c =
    let now = c.loop-q in
    let e = values c.args.pattern in
    let is = read_at val (record { 0 = 0 }) c.args.pattern now.q in
    let sum = counted-one _ now.q _ e now.invariant.1
    (c.change-bits.ensures.bits ∙ ap (λ x. ones (byte x)) (sym is)) in
    record { fits = omega (arith, sum, bit_weight_le (now.q + 1) e, c.requires.1) }

pub loop-q-preserved : goal.loop-q-preserved
loop-q-preserved c =
    let now = c.loop-q in
    let a = c.args.a in
    let e = values c.args.pattern in
    let is = read_at val (record { 0 = 0 }) c.args.pattern now.q in
    let test = sym c.is_zero-in-loop-q.ensures in
    elim c.if-not-is_zero.branch [
      | then-not-is_zero w ↦
          let sum = counted-one _ now.q _ e now.invariant.1 (w.change-bits.ensures.bits
          ∙ ap (λ x. ones (byte x)) (sym is)) in (
            added-one a now.q _ _ _ e _ now.invariant.0
                (ap bytes w.block-is ∙ w.change-bits.ensures.block
                ∙ ap (λ x. bytes now.block ⊞ K x ⊠ zpow (a + now.q)) (sym is)),
            omega (arith, w.bits-is, sum),
          )
      | else-not-is_zero w ↦
          let none : e now.q ≡ 𝟎 = is ∙ is_zero_true _ (test ∙ w.if-not-is_zero.false) in (
            ap (λ b. bytes b ⊞ zpow a ⊠ cut c.args.from e) w.block-is ∙ added-zero a now.q _ _ e _ now.invariant.0 none,
            ap (λ b. b + bit_weight c.args.from e) w.bits-is ∙ counted-zero _ now.q e now.invariant.1 none,
          )
    ]

pub returns : goal.returns
returns c =
    let end = c.loop-q in
    let given = c.args in
    let last : end.q ≡ given.to = omega arith in record {
      block = end.invariant.0 ∙ ap (λ q. bytes given.block.now ⊞ zpow given.a ⊠ cut q (values given.pattern)) last;
      bits = end.invariant.1 ∙ ap (λ q. bit_weight q (values given.pattern)) last;
    }
