use Rattle.std.proofs.Common.{ap, arith, length-set, rules, sym, ℕ, ◌-◌, ◌<◌, ◌∙◌, ◌≡◌}
use lib.ListN.{length-replicate}
use Rattle.field.specs.Field.{α, of, of_zero, pow-zero, val_of}
use Rattle.field.proofs.Field.{power_mod}
use Rattle.series.specs.Series.{◌⊠◌}
use Rattle.series.specs.Shift.{zpow, drop, cut-none}
use Rattle.series.specs.Array.{read-zeros}
use Rattle.divider.specs.Generator.{generator, aligned}
use Rattle.divider.specs.GeneratorCoefficients.{coefficient-top, exponent-more, back_none, back_more, back-all}
use Rattle.divider.proofs.generator.generator.Goals as goal

pub loop-j-init : goal.loop-j-init
loop-j-init c =
    let first = c.args.first in
    let k = c.args.k in
    let e : k - 0 ≡ k = omega arith in (
      length-replicate {A = ℕ} 48 0,
      search rules,
      pow-zero α ∙ sym (ap (generator first k) e ∙ coefficient-top first k),
      read-zeros of 0 of_zero 48 (aligned first k) ∙ cut-none _ ∙ back_none first k (omega arith),
    )

pub loop-j-preserved : goal.loop-j-preserved
loop-j-preserved c =
    let now = c.loop-j in
    let first = c.args.first in
    let k = c.args.k in
    let up = c.zech-up in
    let down = c.zech-down in
    let less : now.j < k = c.loop-j-test.true in
    let small = c.requires.1 in
    let next =
    power_mod _ ∙ exponent-more first k now.j now.e.0 up.result.0 down.result.0 less
    (omega (arith, down.ensures.1)) now.invariant.2 up.ensures.0 down.ensures.0 in (
      length-set now.g _ _ ∙ now.invariant.0,
      omega arith,
      next,
      back_more first now.g k now.j _ (omega (arith, small)) less now.invariant.0 now.invariant.3
          (sym (val_of _) ∙ c.power_in.ensures ∙ next),
    )

pub returns : goal.returns
returns c =
    let end = c.loop-j in
    let first = c.args.first in
    let k = c.args.k in
    let e : end.j ≡ k = omega arith in
    end.invariant.3 ∙ ap (λ (n : ℕ). zpow (48 - n) ⊠ drop (48 - n) (aligned first k)) e ∙ back-all first k
