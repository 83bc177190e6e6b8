-- The scaled form: FORMAT 8.10 to 8.12. S is the run's syndromes so far, 0 past the round.
use Rattle.std.specs.Prelude.{ℕ, ◌+◌, Bool, cond, ℤ, pos}
use Rattle.field.specs.Field.{F, 𝟎, 𝟏, ◌⊙◌, inv, is_zero}
use Rattle.series.specs.Series.{Series, O, ◌⊞◌, ◌⊠◌, K, Z, tail}
use Rattle.key_equation.specs.Shared.{swaps, k_swap, k_hold, or_one}

pub record State : Type 0 where
  pub Λ : Series
  pub B : Series
  pub γ' : F
  pub k : ℤ
  pub Δ : Series
  pub Θ : Series
  pub g : F
  pub ρ : F
  pub ξ : F
  pub ρS : F
  pub ξS : F

-- FORMAT 8.10: the five scalars that are held for iteration r
abbrev pub ratio : ℕ → Series → F
ratio r S = or_one (S (r + 1)) ⊙ inv (or_one (S r))

abbrev pub rho : F → F → F
rho γ' d = cond (is_zero d) 𝟏 γ'

abbrev pub holding : ℕ → Series → (Λ B : Series) (γ' : F) (k : ℤ) (Δ Θ : Series) → State
holding r S Λ B γ' k Δ Θ = record {
  Λ = Λ;
  B = B;
  γ' = γ';
  k = k;
  Δ = Δ;
  Θ = Θ;
  g = ratio r S;
  ρ = rho γ' (Δ 0);
  ξ = Δ 0;
  ρS = ratio r S ⊙ rho γ' (Δ 0);
  ξS = ratio r S ⊙ Δ 0;
}

abbrev pub start : State
start = record { Λ = K 𝟏; B = K 𝟏; γ' = 𝟏; k = pos 0; Δ = O; Θ = O; g = 𝟏; ρ = 𝟏; ξ = 𝟎; ρS = 𝟏; ξS = 𝟎 }

-- FORMAT 8.11: Δ becomes Δ + S_u Λ, and Θ becomes Θ + S_u B; then Λ becomes S'_u Λ, and B becomes S'_u B
abbrev pub enter : ℕ → Series → State → State
enter u S s = holding u S
    (K (or_one (S u)) ⊠ s.Λ)
    (K (or_one (S u)) ⊠ s.B)
    s.γ'
    s.k
    (s.Δ ⊞ K (S u) ⊠ s.Λ)
    (s.Θ ⊞ K (S u) ⊠ s.B)

-- FORMAT 8.12: a term in brackets is left out if S_(r+1) is 0; f is the term and x is S_(r+1)
unfoldable pub unless : F → Series → Series
unless x f = cond (is_zero x) O f

abbrev pub next_Λ : State → Series
next_Λ s = K s.ρS ⊠ s.Λ ⊞ K s.ξS ⊠ (Z ⊠ s.B)

abbrev pub next_Δ : ℕ → Series → State → Series
next_Δ r S s = K s.ρ ⊠ tail s.Δ ⊞ K s.ξ ⊠ s.Θ ⊞ unless (S (r + 1)) (next_Λ s)

abbrev pub swap : ℕ → Series → State → State
swap r S s = holding (r + 1) S
    (next_Λ s)
    (K s.ρS ⊠ s.Λ)
    (s.ρ ⊙ s.Δ 0)
    (k_swap s.k)
    (next_Δ r S s)
    (K s.ρ ⊠ tail s.Δ ⊞ unless (S (r + 1)) (K s.ρS ⊠ s.Λ))

-- FORMAT 8.12: ξ* and ξ_S*, which a hold uses, are 1 and g if d is 0
abbrev pub ξ_hold : State → F
ξ_hold s = cond (is_zero (s.Δ 0)) 𝟏 s.ξ

abbrev pub ξS_hold : State → F
ξS_hold s = cond (is_zero (s.Δ 0)) s.g s.ξS

abbrev pub hold : ℕ → Series → State → State
hold r S s = holding (r + 1) S
    (next_Λ s)
    (K (ξS_hold s) ⊠ (Z ⊠ s.B))
    (ξ_hold s ⊙ s.γ')
    (k_hold s.k)
    (next_Δ r S s)
    (K (ξ_hold s) ⊠ s.Θ ⊞ unless (S (r + 1)) (K (ξS_hold s) ⊠ (Z ⊠ s.B)))

abbrev pub swapping : ℕ → Series → State → Bool
swapping r S s = swaps (s.Δ 0) s.k

unfoldable pub iterate : ℕ → Series → State → State
iterate r S s = cond (swapping r S s) (swap r S s) (hold r S s)
