-- What the states of the lookahead form's code stand for.
--
--   lookahead r p      the state of the definitions that p stands for, after r iterations
--   lookahead_with s Λ B Δ Θ   s with other polynomials
--   clip_lookahead s   s with the first 49 coefficients of its polynomials: all that an array holds
use Rattle.std.specs.Prelude.{ℕ}
use Rattle.field.specs.Field.{val}
use Rattle.series.specs.Series.{Series}
use Rattle.series.specs.Shift.{cut}
use Rattle.polynomial.specs.Polynomial.{poly}
use Rattle.key_equation.specs.Length.{k_of}
use Rattle.key_equation.specs.Lookahead as Lookahead
use Rattle.solver.specs.declared.lookahead.Lookahead.{Lookahead}

unfoldable pub lookahead : ℕ → Lookahead → Lookahead.State
lookahead r p = record {
  Λ = poly p.locator;
  B = poly p.auxiliary;
  γ = val p.gamma;
  k = k_of r p.length;
  Δ = poly p.delta;
  Θ = poly p.theta;
  γS = val p.gamma_s;
  δS = val p.delta_s;
  θS = val p.theta_s;
  g1 = val p.g1;
  g2 = val p.g2;
  h1 = val p.h1;
  h2 = val p.h2;
}

abbrev pub lookahead_with : Lookahead.State → (Λ B Δ Θ : Series) → Lookahead.State
lookahead_with s Λ B Δ Θ = record s { Λ = Λ; B = B; Δ = Δ; Θ = Θ }

unfoldable pub clip_lookahead : Lookahead.State → Lookahead.State
clip_lookahead s = lookahead_with s (cut 49 s.Λ) (cut 49 s.B) (cut 49 s.Δ) (cut 49 s.Θ)
