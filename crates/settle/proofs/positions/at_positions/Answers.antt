use Rattle.std.proofs.Common.{ap, arith, refl, rules, sym, ℕ, ◌+◌, ◌∙◌, ◌≡◌}
use Rattle.field.specs.Field.{𝟏, val, pow}
use Rattle.series.specs.Degree.{below, below-cut}
use Rattle.series.specs.Value.{value}
use Rattle.kernel.specs.ProductRow.{factor-products}
use Rattle.settling.specs.Locator.{W, W-is, W_nonzero}
use Rattle.settle.specs.PositionsTerm.{terms, below-terms, terms-first, terms-add}
use Rattle.settle.specs.PositionsExponent.{symbols, steps-terms}
use Rattle.settle.specs.PositionsThird.{three, value-three, cube-zero, cube-one, cube-two}
use Rattle.settle.specs.PositionsThird.{placed-none, placed-more, placed-all}
use Rattle.settle.proofs.positions.at_positions.Goals as goal

pub steps-step-requires : goal.steps-step-requires
steps-step-requires c = (search rules, rw c.exponents-e.ensures (below-cut _ _))

pub loop-p-init : goal.loop-p-init
loop-p-init c = (terms-first _, placed-none _ _ (search rules))

pub sums-requires : goal.sums-requires
sums-requires c =
    let now = c.loop-p in
    let k = c.args.k in (
      c.requires,
      rw now.invariant.0 (below-terms k (W now.p) _ (rw c.exponents-e.ensures (below-cut k _))),
    )

pub spread-v-requires : goal.spread-v-requires
spread-v-requires c =
    factor-products _ _ c.product_row-row.ensures ∙ c.power.ensures ∙ sym (W-is 85 (omega arith))

pub next-on-requires : goal.next-on-requires
next-on-requires c =
    let now = c.loop-p in
    rw now.invariant.0 (steps-terms (W now.p) _ c.steps-step.result (W_nonzero now.p) c.steps-step.ensures)

pub loop-p-preserved : goal.loop-p-preserved
loop-p-preserved c =
    let spread = c.spread-v.ensures in
    let s = c.sums.result in
    let sums = c.sums.ensures in
    let now = c.loop-p in
    let p = now.p in
    let k = c.args.k in
    let f = symbols c.exponents-e.result in
    let low : below k f = rw c.exponents-e.ensures (below-cut k _) in
    let at : (q r : ℕ) → pow (W q) 3 ≡ 𝟏 → r ≡ p + q
    → three (W q) (val s.a) (val s.b) (val s.c) ≡ value k f (W r) =
    λ q r root is. value-three k p q r f _ _ _ _ low (omega (arith, c.requires)) root is now.invariant.0 sums.0
    sums.1 sums.2 in (
      c.next-on.ensures ∙ ap (terms (W 1)) now.invariant.0 ∙ terms-add p 1 f,
      placed-more _ _ _ now.invariant.1 (omega arith)
          (spread.0 ∙ at 0 p cube-zero (omega arith)) (spread.1 ∙ at 85 (p + 85) cube-one refl)
          (spread.2 ∙ at 170 (p + 170) cube-two refl),
    )

pub returns : goal.returns
returns c =
    let end = c.loop-p in
    let e : end.p ≡ 85 = omega arith in
    placed-all _ _ _ c.exponents-e.ensures (rw e at end.invariant.1)
