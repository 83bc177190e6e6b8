-- Each coefficient by the products that it is of.
use Rattle.std.proofs.Common.{sym, ◌∙◌}
use Rattle.field.specs.Field.{𝟎, 𝟏, ◌⊙◌, pow-add}
use Rattle.series.specs.Series.{O}
use Rattle.binary.specs.Coefficients.{◌◂◌, pow_2}
use Rattle.binary.specs.Equal.{of}
use Rattle.binary.specs.Solved.{literal}
use Rattle.binary.proofs.direct.v101.Goals as goal

pub returns : goal.returns
returns c a b d h =
    let d0 = c.product-x.ensures ∙ (λ i. h.s4 i ⊙ h.s4 i) ∙ sym (pow_2 d) in
    let d2 = c.product-y.ensures ∙ (λ i. h.square2 i ⊙ h.square2 i) ∙ sym (pow-add b 2 2) in
    simp literal
    (λ i.
    of (h.s2 i ◂ 𝟎 ◂ h.s4 i ◂ h.square2 i ◂ O) (𝟎 ◂ 𝟎 ◂ 𝟎 ◂ 𝟏 ◂ O) (d0 i ◂ 𝟎 ◂ d2 i ◂ O) (h.s4 i ◂ O) (h.s2 i) 3 3)
