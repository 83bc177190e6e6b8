-- Each coefficient by the products that it is of.
use Rattle.std.proofs.Common.{◌∙◌}
use Rattle.field.specs.Field.{𝟎, ◌⊕◌, ◌⊙◌}
use Rattle.series.specs.Series.{O}
use Rattle.binary.specs.Coefficients.{◌◂◌}
use Rattle.binary.specs.Equal.{of}
use Rattle.binary.specs.Solved.{literal}
use Rattle.binary.proofs.direct.v010.Goals as goal

pub returns : goal.returns
returns c a b d h =
    let q = c.sum-q.ensures ∙ (λ i. h.both i ⊕ h.sixth i) in
    let x = c.product.ensures ∙ (λ i. h.cube i ⊙ h.square2 i) in
    let d0 = c.plus_product.ensures ∙ (λ i. x i ⊕ q i ⊙ h.s2 i) in
    let d2 = c.product-2.ensures ∙ (λ i. q i ⊙ h.s4 i) in
    let t0 = c.product-3.ensures ∙ (λ i. h.square i ⊙ h.square2 i) in
    simp literal
    (λ i.
    of (h.square i ◂ h.cube i ◂ 𝟎 ◂ 𝟎 ◂ q i ◂ O) (𝟎 ◂ h.s0 i ◂ h.square i ◂ O) (d0 i ◂ 𝟎 ◂ d2 i ◂ O) (t0 i ◂ O)
    (q i) 4 2)
