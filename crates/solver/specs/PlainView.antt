-- What the states of the plain form's code stand for.
--
--   plain r p      the state of the definitions that p stands for, after r iterations
--   clip_plain s   s with the first 49 coefficients of its polynomials: all that an array holds
use Rattle.std.specs.Prelude.{ℕ}
use Rattle.field.specs.Field.{val}
use Rattle.series.specs.Shift.{cut}
use Rattle.polynomial.specs.Polynomial.{poly}
use Rattle.key_equation.specs.Length.{k_of}
use Rattle.key_equation.specs.Plain as Plain
use Rattle.solver.specs.declared.plain.Plain.{Plain}

unfoldable pub plain : ℕ → Plain → Plain.State
plain r p = record { Λ = poly p.locator; B = poly p.auxiliary; γ = val p.gamma; k = k_of r p.length }

unfoldable pub clip_plain : Plain.State → Plain.State
clip_plain s = record { Λ = cut 49 s.Λ; B = cut 49 s.B; γ = s.γ; k = s.k }
