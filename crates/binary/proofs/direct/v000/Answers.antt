-- Each coefficient by the products that it is of.
use Rattle.std.proofs.Common.{sym, ◌∙◌}
use Rattle.field.specs.Field.{𝟎, ◌⊕◌, ◌⊙◌, pow-add}
use Rattle.series.specs.Series.{O}
use Rattle.binary.specs.Coefficients.{◌◂◌}
use Rattle.binary.specs.Equal.{of}
use Rattle.binary.specs.Solved.{literal}
use Rattle.binary.proofs.direct.v000.Goals as goal

pub returns : goal.returns
returns c a b d h =
    let e = c.plus_product-e.ensures ∙ (λ i. h.both i ⊕ h.cube i ⊙ h.s2 i) in
    let squares = c.product-squares.ensures ∙ (λ i. h.square i ⊙ h.square2 i) in
    let y = c.product.ensures ∙ (λ i. squares i ⊙ h.d1 i) in
    let x = c.plus_product-x.ensures ∙ (λ i. y i ⊕ e i ⊙ h.s4 i) in
    let l0 = c.product-2.ensures ∙ (λ i. h.s0 i ⊙ h.d1 i) in
    let l1 = c.product-3.ensures ∙ (λ i. h.square i ⊙ h.d1 i) in
    let l3 = c.product-4.ensures ∙ (λ i. h.s0 i ⊙ h.phi i) in
    let fifth = c.product-5.ensures ∙ (λ i. h.square i ⊙ h.cube i) ∙ sym (pow-add a 2 3) in
    let d0 = c.plus_product.ensures ∙ (λ i. x i ⊕ fifth i ⊙ h.phi i) in
    let last = c.product-6.ensures ∙ (λ i. h.s0 i ⊙ h.square2 i) in
    let d2 = c.product-7.ensures ∙ (λ i. last i ⊙ h.phi i) in
    let t0 = c.plus_product-2.ensures ∙ (λ i. squares i ⊕ h.s4 i ⊙ h.d1 i) in
    simp literal
    (λ i.
    of (l0 i ◂ l1 i ◂ e i ◂ l3 i ◂ O) (𝟎 ◂ h.s0 i ◂ h.square i ◂ h.d1 i ◂ O) (d0 i ◂ 𝟎 ◂ d2 i ◂ O) (t0 i ◂ O)
    (h.phi i) 3 3)
