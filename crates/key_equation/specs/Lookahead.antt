-- The lookahead form, FORMAT's ahead: FORMAT 8.6 to 8.9, which is Algorithm 2 of the nested-solver paper, line by line.
-- S is the run's syndromes so far, 0 past the round. Scalars are held for the next iteration, so that an iteration
-- multiplies no syndrome into a discrepancy that it has just computed.
use Rattle.std.specs.Prelude.{ℕ, ◌+◌, Bool, cond, ℤ, pos}
use Rattle.field.specs.Field.{F, 𝟎, 𝟏, ◌⊕◌, ◌⊙◌}
use Rattle.series.specs.Series.{Series, O, ◌⊞◌, ◌⊠◌, K, Z, tail}
use Rattle.key_equation.specs.Shared.{swaps, k_swap, k_hold}

pub record State : Type 0 where
  pub Λ : Series
  pub B : Series
  pub γ : F
  pub k : ℤ
  pub Δ : Series
  pub Θ : Series
  pub γS : F
  pub δS : F
  pub θS : F
  pub g1 : F
  pub g2 : F
  pub h1 : F
  pub h2 : F

abbrev pub start : State
start = record {
  Λ = K 𝟏;
  B = K 𝟏;
  γ = 𝟏;
  k = pos 0;
  Δ = O;
  Θ = O;
  γS = 𝟎;
  δS = 𝟎;
  θS = 𝟎;
  g1 = 𝟎;
  g2 = 𝟎;
  h1 = 𝟎;
  h2 = 𝟎;
}

-- FORMAT 8.8
abbrev pub enter : ℕ → Series → State → State
enter u S s = record {
  Λ = s.Λ;
  B = s.B;
  γ = s.γ;
  k = s.k;
  Δ = s.Δ ⊞ K (S u) ⊠ s.Λ;
  Θ = s.Θ ⊞ K (S u) ⊠ s.B;
  γS = s.γ ⊙ S (u + 1);
  δS = S (u + 1) ⊙ s.Δ 0 ⊕ S (u + 1) ⊙ S u ⊙ s.Λ 0;
  θS = S (u + 2) ⊙ s.Θ 0 ⊕ S (u + 2) ⊙ S u ⊙ s.B 0;
  g1 = S (u + 1) ⊙ S (u + 3);
  g2 = S (u + 2) ⊙ S (u + 3);
  h1 = s.γ ⊙ S (u + 2);
  h2 = s.γ ⊙ S (u + 1) ⊙ S (u + 2);
}

-- FORMAT 8.9: lines 1 to 3 of the algorithm
abbrev pub next_Λ : State → Series
next_Λ s = K s.γ ⊠ s.Λ ⊞ K (s.Δ 0) ⊠ (Z ⊠ s.B)

abbrev pub next_Δ : State → Series
next_Δ s = K s.γ ⊠ tail s.Δ ⊞ K s.γS ⊠ s.Λ ⊞ K (s.Δ 0) ⊠ s.Θ ⊞ K s.δS ⊠ (Z ⊠ s.B)

abbrev pub next_δS : State → F
next_δS s = s.h1 ⊙ s.Δ 1 ⊕ s.h2 ⊙ s.Λ 0 ⊕ s.Δ 0 ⊙ s.θS

-- FORMAT 8.9, a swap: lines 1 to 10
abbrev pub swap : ℕ → Series → State → State
swap r S s = record {
  Λ = next_Λ s;
  B = s.Λ;
  γ = s.Δ 0;
  k = k_swap s.k;
  Δ = next_Δ s;
  Θ = tail s.Δ ⊞ K (S (r + 1)) ⊠ s.Λ;
  γS = s.Δ 0 ⊙ S (r + 2);
  δS = next_δS s;
  θS = S (r + 3) ⊙ s.Δ 1 ⊕ s.g1 ⊙ s.Λ 0;
  g1 = S (r + 2) ⊙ S (r + 4);
  g2 = S (r + 3) ⊙ S (r + 4);
  h1 = s.Δ 0 ⊙ S (r + 3);
  h2 = s.Δ 0 ⊙ s.g2;
}

-- FORMAT 8.9, a hold: lines 1 to 4 and 11 to 16
abbrev pub hold : ℕ → Series → State → State
hold r S s = record {
  Λ = next_Λ s;
  B = Z ⊠ s.B;
  γ = s.γ;
  k = k_hold s.k;
  Δ = next_Δ s;
  Θ = s.Θ ⊞ K (S (r + 1)) ⊠ (Z ⊠ s.B);
  γS = s.γ ⊙ S (r + 2);
  δS = next_δS s;
  θS = S (r + 3) ⊙ s.Θ 0;
  g1 = S (r + 2) ⊙ S (r + 4);
  g2 = S (r + 3) ⊙ S (r + 4);
  h1 = s.γ ⊙ S (r + 3);
  h2 = s.γ ⊙ s.g2;
}

abbrev pub swapping : ℕ → Series → State → Bool
swapping r S s = swaps (s.Δ 0) s.k

unfoldable pub iterate : ℕ → Series → State → State
iterate r S s = cond (swapping r S s) (swap r S s) (hold r S s)
