-- Each coefficient by the products that it is of.
use Rattle.std.proofs.Common.{◌∙◌, ◌≡◌}
use Rattle.field.specs.Field.{𝟎, 𝟏, ◌⊕◌, ◌⊙◌, pow, pow-add}
use Rattle.series.specs.Series.{O}
use Rattle.binary.specs.Coefficients.{◌◂◌}
use Rattle.binary.specs.Equal.{of}
use Rattle.binary.specs.Solved.{literal}
use Rattle.binary.proofs.direct.v001.Goals as goal

pub returns : goal.returns
returns c a b d h =
    let l2 = c.sum-h.ensures ∙ (λ i. h.sixth i ⊕ h.square2 i) in
    let squares = c.product.ensures ∙ (λ i. h.square i ⊙ h.square2 i) in
    let x = c.product-x.ensures ∙ (λ i. squares i ⊙ h.d1 i) in
    let l0 = c.product-2.ensures ∙ (λ i. h.s0 i ⊙ h.d1 i) in
    let l1 = c.product-3.ensures ∙ (λ i. h.square i ⊙ h.d1 i) in
    let d0 = c.plus_product.ensures ∙ (λ i. x i ⊕ l2 i ⊙ h.s4 i) in
    let fifth : d ⊕ pow a 2 ⊙ pow a 3 ≡ d ⊕ pow a 5 = rw (pow-add a 2 3) in
    let t0 = c.plus_product-2.ensures ∙ (λ i. h.s4 i ⊕ h.square i ⊙ h.cube i) ∙ fifth in
    let t2 = c.product-4.ensures ∙ (λ i. h.s0 i ⊙ h.square2 i) in
    simp literal
    (λ i.
    of (l0 i ◂ l1 i ◂ l2 i ◂ O) (𝟎 ◂ 𝟎 ◂ 𝟎 ◂ 𝟏 ◂ h.s0 i ◂ O) (d0 i ◂ O) (t0 i ◂ 𝟎 ◂ t2 i ◂ O) (h.d1 i) 2 4)
