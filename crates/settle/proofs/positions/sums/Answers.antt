use Rattle.std.proofs.Common.{ap₂, arith, get_or, length, rules, sym, ℕ, ◌<◌, ◌∙◌, ◌≡◌}
use Rattle.field.specs.Field.{◌⊕◌, val-zero}
use Rattle.settle.specs.PositionsExponent.{lane, symbols, symbols-at}
use Rattle.settle.specs.PositionsThird.{third, third-none, third-more, third-all}
use Rattle.settle.proofs.positions.sums.Goals as goal

pub loop-m-init : goal.loop-m-init
loop-m-init c = (val-zero ∙ sym (third-none 0 _), val-zero ∙ sym (third-none 1 _), val-zero ∙ sym (third-none 2 _))

pub loop-m-preserved : goal.loop-m-preserved
loop-m-preserved c =
    let now = c.loop-m in
    let e = c.args.e in
    let long : length e ≡ 32 = search rules in
    let at : (i : ℕ) → i < 32 → lane (get_or e i (record { 0 = 0 })) ≡ symbols e i =
    λ i h. sym (symbols-at e i (omega (arith, long))) in (
      c.sum-a.ensures ∙ ap₂ ◌⊕◌ now.invariant.0 (c.power_of.ensures ∙ at _ (omega arith))
          ∙ sym (third-more 0 now.m _ _ (omega arith)),
      c.sum-b.ensures ∙ ap₂ ◌⊕◌ now.invariant.1 (c.power_of-in-loop-m.ensures ∙ at _ (omega arith))
          ∙ sym (third-more 1 now.m _ _ (omega arith)),
      c.sum-c.ensures ∙ ap₂ ◌⊕◌ now.invariant.2 (c.power_of-in-loop-m-2.ensures ∙ at _ (omega arith))
          ∙ sym (third-more 2 now.m _ _ (omega arith)),
    )

pub returns : goal.returns
returns c =
    let end = c.loop-m in
    let f = symbols c.args.e in
    let all : (a : ℕ) → third a end.m f ≡ third a 9 f =
    λ a. sym (third-all a c.args.k end.m f c.requires.1 (omega arith) (omega arith)) in
    (end.invariant.0 ∙ all 0, end.invariant.1 ∙ all 1, end.invariant.2 ∙ all 2)
