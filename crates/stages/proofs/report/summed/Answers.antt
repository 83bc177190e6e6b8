use Rattle.std.proofs.Common.{ap, arith, length, refl, rules, ℕ, ◌*◌, ◌+◌, ◌<◌, ◌∙◌, ◌≡◌, ◌≤◌}
use Rattle.staged_decoding.specs.Definition.{total, count_of}
use Rattle.stages.specs.Report.{says}
use Rattle.stages.specs.Lines.{bits-few, sum-none, sum_more}
use Rattle.stages.proofs.report.summed.Goals as goal

pub loop-i-init : goal.loop-i-init
loop-i-init c = (
  omega arith,
  omega arith,
  sum-none (λ l. count_of l.verdict) c.args.lines,
  sum-none (λ l. l.bits) c.args.lines,
)

pub overflow_add-changed : goal.overflow_add-changed
overflow_add-changed c =
    record { fits = omega (arith, c.loop-i.invariant.0, c.changes-changed.ensures.small, c.requires.0) }

pub overflow_add-bits : goal.overflow_add-bits
overflow_add-bits c =
    let now = c.loop-i in
    let long : length c.args.lines ≡ 8 = search rules in
    record {
      fits = short (bits-few c.args.lines c.args.m now.i now.bits _ c.requires.1
          (omega arith) (omega (arith, long, c.requires.0)) now.invariant.1) (omega (arith, c.requires.0));
    }
  where
    short : {b k : ℕ} → b ≤ 2040 * (k + 1) → k < 8 → b < 65536
    short h l = omega arith

pub loop-i-preserved : goal.loop-i-preserved
loop-i-preserved c =
    let now = c.loop-i in
    let long : length c.args.lines ≡ 8 = search rules in
    let low : now.i < length c.args.lines = omega (arith, long, c.requires.0) in (
      omega (arith, c.changes-changed.ensures.small, now.invariant.0),
      bits-few c.args.lines c.args.m now.i now.bits _ c.requires.1 (omega arith) low
          now.invariant.1,
      sum_more (λ l. count_of l.verdict) c.args.lines now.changed now.i _ _ low now.invariant.2
          c.changes-changed.ensures.value,
      sum_more (λ l. l.bits) c.args.lines now.bits now.i _ _ low now.invariant.3 refl,
    )

pub returns : goal.returns
returns c =
    let end = c.loop-i in
    let given = c.args in
    let e : end.i ≡ given.m = omega arith in record {
      kept = (refl, refl);
      changed = end.invariant.2 ∙ ap (λ i. total i (λ k. count_of (says given.lines k).verdict)) e;
      bits = end.invariant.3 ∙ ap (λ i. total i (λ k. (says given.lines k).bits)) e;
    }
