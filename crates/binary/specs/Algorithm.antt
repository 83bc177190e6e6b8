-- The parallel inversionless Berlekamp algorithm for binary words of capability 3: FORMAT 11.6, Algorithm 1 of the
-- papers. Its x is z here. Before the first iteration B is z^-1 and its length L_B is -1, so that z·B and L_B + 1 are
-- held.
--
--   State           Λ, z·B, the even parts of Δ and Θ, γ, L_Λ and L_B + 1
--   start           the state before the first iteration over six syndromes
--   nextΛ, nextΔ    Λ and Δ after an iteration with the discrepancy d
--   branchA, branchB   the state after it: the branch that takes Λ for B, and the other
--   step            one iteration
--   iterated        three iterations over S_0, S_0², S_2, S_0⁴, S_4, S_2²
use Rattle.std.specs.Prelude.{ℕ, ◌+◌, not, cond, ◌&&◌, leb}
use Rattle.field.specs.Field.{F, 𝟎, 𝟏, pow, is_zero}
use Rattle.series.specs.Series.{Series, O, K, Z, ◌⊞◌, ◌⊠◌, tail}
use Rattle.binary.specs.Coefficients.{◌◂◌}

pub record State : Type 0 where
  pub Λ : Series
  pub zB : Series
  pub Δ : Series
  pub Θ : Series
  pub γ : F
  pub LΛ : ℕ
  pub LB+1 : ℕ

abbrev pub start : (S0 S1 S2 S3 S4 S5 : F) → State
start S0 S1 S2 S3 S4 S5 = record {
  Λ = 𝟏 ◂ O;
  zB = 𝟏 ◂ O;
  Δ = S0 ◂ 𝟎 ◂ S2 ◂ 𝟎 ◂ S4 ◂ O;
  Θ = S1 ◂ 𝟎 ◂ S3 ◂ 𝟎 ◂ S5 ◂ O;
  γ = 𝟏;
  LΛ = 0;
  LB+1 = 0;
}

-- line 1: γ Λ + d z² B
abbrev pub nextΛ : F → State → Series
nextΛ d s = K s.γ ⊠ s.Λ ⊞ K d ⊠ (Z ⊠ s.zB)

-- line 2: γ Δ/z² + d Θ
abbrev pub nextΔ : F → State → Series
nextΔ d s = K s.γ ⊠ tail (tail s.Δ) ⊞ K d ⊠ s.Θ

-- lines 4 and 5: B is the old Λ, Θ is Δ/z², γ is d, L_B is L_Λ, L_Λ is L_B + 2
abbrev pub branchA : F → State → State
branchA d s = record {
  Λ = nextΛ d s;
  zB = Z ⊠ s.Λ;
  Δ = nextΔ d s;
  Θ = tail (tail s.Δ);
  γ = d;
  LΛ = s.LB+1 + 1;
  LB+1 = s.LΛ + 1;
}

-- lines 7 and 8: B is z² B, L_B is L_B + 2; Θ, γ and L_Λ stay
abbrev pub branchB : F → State → State
branchB d s = record {
  Λ = nextΛ d s;
  zB = Z ⊠ (Z ⊠ s.zB);
  Δ = nextΔ d s;
  Θ = s.Θ;
  γ = s.γ;
  LΛ = s.LΛ;
  LB+1 = s.LB+1 + 2;
}

-- line 3: d, the constant term of Δ, is not zero, and L_B - L_Λ ≥ -1
unfoldable pub step : State → State
step s = cond (not (is_zero (s.Δ 0)) && leb s.LΛ s.LB+1) (branchA (s.Δ 0) s) (branchB (s.Δ 0) s)

abbrev pub iterated : F → F → F → State
iterated S0 S2 S4 = step (step (step (start S0 (pow S0 2) S2 (pow S0 4) S4 (pow S2 2))))
