-- Each coefficient is 0, 1 or S_4.
use Rattle.field.specs.Field.{𝟎, 𝟏}
use Rattle.series.specs.Series.{O}
use Rattle.binary.specs.Coefficients.{◌◂◌}
use Rattle.binary.specs.Equal.{of}
use Rattle.binary.specs.Solved.{literal}
use Rattle.binary.proofs.direct.v110.Goals as goal

pub returns : goal.returns
returns c a b d h = simp literal (λ i. of (𝟏 ◂ 𝟎 ◂ 𝟎 ◂ 𝟎 ◂ 𝟎 ◂ h.s4 i ◂ O) (𝟎 ◂ 𝟏 ◂ O) O O (h.s4 i) 5 1)
