-- Each coefficient by the products that it is of.
use Rattle.std.proofs.Common.{◌∙◌}
use Rattle.field.specs.Field.{𝟎, 𝟏, ◌⊙◌}
use Rattle.series.specs.Series.{O}
use Rattle.binary.specs.Coefficients.{◌◂◌}
use Rattle.binary.specs.Equal.{of}
use Rattle.binary.specs.Solved.{literal}
use Rattle.binary.proofs.direct.v011.Goals as goal

pub returns : goal.returns
returns c a b d h =
    let d0 = c.product-x.ensures ∙ (λ i. h.cube i ⊙ h.square2 i) in
    simp literal
    (λ i.
    of (h.square i ◂ h.cube i ◂ O) (𝟎 ◂ 𝟎 ◂ 𝟎 ◂ 𝟎 ◂ 𝟎 ◂ 𝟏 ◂ O) (d0 i ◂ O) (h.s2 i ◂ 𝟎 ◂ h.s4 i ◂ O) (h.s0 i) 1 5)
