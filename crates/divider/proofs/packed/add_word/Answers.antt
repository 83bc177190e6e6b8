use Rattle.std.proofs.Common.{ap, arith, length-set, refl, rules, suc, sym, ◌+◌, ◌∙◌, ◌≡◌}
use Rattle.field.specs.Field.{F, ◌⊕◌}
use Rattle.field.proofs.Field.{of_mod}
use Rattle.series.specs.Series.{Series, ◌⊞◌, ◌⊠◌}
use Rattle.series.specs.Shift.{zpow}
use Rattle.series.specs.Degree.{below-cut_eq}
use Rattle.series.specs.Array.{bytes}
use Rattle.kernel.specs.Store.{bytes-xor, append-none, add-more}
use Rattle.divider.specs.Packed.{digits, digits_at0, digits-next, below-digits}
use Rattle.divider.proofs.packed.add_word.Goals as goal

pub loop-i-init : goal.loop-i-init
loop-i-init c = (refl, λ k. let e : k ≡ 0 + k = omega arith in ap (digits _) e, append-none _ _ _)

pub loop-i-preserved : goal.loop-i-preserved
loop-i-preserved c =
    let now = c.loop-i in
    let given = c.args in
    let e : now.i ≡ now.i + 0 = omega arith in
    let first = of_mod now.v ∙ sym (digits_at0 now.v) ∙ now.invariant.1 0 ∙ ap (digits given.w) (sym e) in
    let sum = bytes-xor now.out _ _ ∙ ap (λ (s : F). bytes now.out (given.at + now.i) ⊕ s) first in (
      length-set now.out _ _ ∙ now.invariant.0,
      λ k. let d : now.i + suc k ≡ now.i + 1 + k = omega arith in digits-next now.v k ∙ now.invariant.1 (suc k)
          ∙ ap (digits given.w) d,
      add-more now.out given.at now.i _ _ (digits given.w) (omega arith) now.invariant.2 sum,
    )

pub shape_of-out : goal.shape_of-out
shape_of-out c = c.loop-i.invariant.0

pub returns : goal.returns
returns c =
    let end = c.loop-i in
    let e : end.i ≡ 8 = omega arith in
    let all = below-cut_eq 8 _ (below-digits c.args.w (search rules)) in
    (rw e at end.invariant.2) ∙ ap (λ (f : Series). bytes c.args.out.now ⊞ zpow c.args.at ⊠ f) all
