-- The plain form (Reed, Shih and Truong): FORMAT 8.5. S is the syndromes.
use Rattle.std.specs.Prelude.{ℕ, ◌-◌, Bool, cond, ℤ, pos}
use Rattle.field.specs.Field.{F, 𝟏, ◌⊙◌}
use Rattle.series.specs.Series.{Series, ◌⊞◌, ◌⊠◌, K, Z}
use Rattle.key_equation.specs.Shared.{swaps, k_swap, k_hold, from_to}

pub record State : Type 0 where
  pub Λ : Series
  pub B : Series
  pub γ : F
  pub k : ℤ

abbrev pub start : State
start = record { Λ = K 𝟏; B = K 𝟏; γ = 𝟏; k = pos 0 }

-- the discrepancy of iteration r
unfoldable pub δ : ℕ → Series → State → F
δ r S s = from_to 0 r (λ i. s.Λ i ⊙ S (r - i))

-- Λ becomes γΛ + δzB
abbrev pub update : F → State → Series
update d s = K s.γ ⊠ s.Λ ⊞ K d ⊠ (Z ⊠ s.B)

-- at a swap B becomes Λ, and γ becomes δ
abbrev pub swap : F → State → State
swap d s = record { Λ = update d s; B = s.Λ; γ = d; k = k_swap s.k }

-- at a hold B becomes zB, and γ stays
abbrev pub hold : F → State → State
hold d s = record { Λ = update d s; B = Z ⊠ s.B; γ = s.γ; k = k_hold s.k }

-- an entry changes nothing: δ is found from all syndromes
abbrev pub enter : ℕ → Series → State → State
enter u S s = s

abbrev pub swapping : ℕ → Series → State → Bool
swapping r S s = swaps (δ r S s) s.k

unfoldable pub iterate : ℕ → Series → State → State
iterate r S s = cond (swapping r S s) (swap (δ r S s) s) (hold (δ r S s) s)
