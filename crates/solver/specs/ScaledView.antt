-- What the states of the scaled form's code stand for, and an iteration from its products.
--
--   scaled r p                the state of the definitions that p stands for, after r iterations
--   scaled_with s Λ B Δ Θ     s with other polynomials
--   clip_scaled s             s with the first 49 coefficients of its polynomials: all that an array holds
--   ProductsOf s a b c e     a, b, c and e are the products of an iteration of s, clipped: ρ_S Λ, ξ_S zB, ρ
--                             Δ/z and ξ Θ
--   stepped r S a b c e y t   the state for iteration r, from the products of the one before: B becomes y, and Θ
--                             becomes t with y added unless S_r = 0
use Rattle.std.specs.Prelude.{ℕ, ◌≡◌, ℤ}
use Rattle.field.specs.Field.{F, val}
use Rattle.series.specs.Series.{Series, K, Z, ◌⊞◌, ◌⊠◌, tail}
use Rattle.series.specs.Shift.{cut}
use Rattle.polynomial.specs.Polynomial.{poly}
use Rattle.key_equation.specs.Length.{k_of}
use Rattle.key_equation.specs.Scaled.{State, holding, unless}
use Rattle.solver.specs.declared.scaled.Scaled.{Scaled}

unfoldable pub scaled : ℕ → Scaled → State
scaled r p = record {
  Λ = poly p.locator;
  B = poly p.auxiliary;
  γ' = val p.gamma;
  k = k_of r p.length;
  Δ = poly p.delta;
  Θ = poly p.theta;
  g = val p.ratio;
  ρ = val p.rho;
  ξ = val p.xi;
  ρS = val p.rho_s;
  ξS = val p.xi_s;
}

abbrev pub scaled_with : State → (Λ B Δ Θ : Series) → State
scaled_with s Λ B Δ Θ = record s { Λ = Λ; B = B; Δ = Δ; Θ = Θ }

unfoldable pub clip_scaled : State → State
clip_scaled s = scaled_with s (cut 49 s.Λ) (cut 49 s.B) (cut 49 s.Δ) (cut 49 s.Θ)

pub record ProductsOf (s : State) (a b c e : Series) : Type 0 where
  pub a_is : a ≡ cut 49 (K s.ρS ⊠ s.Λ)
  pub b_is : b ≡ cut 49 (K s.ξS ⊠ (Z ⊠ s.B))
  pub c_is : c ≡ cut 49 (K s.ρ ⊠ tail s.Δ)
  pub e_is : e ≡ cut 49 (K s.ξ ⊠ s.Θ)

abbrev pub stepped : ℕ → Series → (a b c e y t : Series) (γ' : F) (k : ℤ) → State
stepped r S a b c e y t γ' k =
    holding r S (a ⊞ b) y γ' k (c ⊞ e ⊞ unless (S r) (a ⊞ b)) (t ⊞ unless (S r) y)
