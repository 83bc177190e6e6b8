-- An iteration of the lookahead form, from what its lines compute.
--
--   stepped r S s B γ k Θ θS   s after iteration r, in 49 coefficients: what a swap and a hold share, with the new B,
--                              γ, k, Θ and θ_S
--
-- Proved: cut 49 passes through the sums Δ and Θ of the next iteration.
use Rattle.std.specs.Prelude.{ℕ, ◌+◌, ◌≡◌, ℤ}
use Rattle.std.proofs.Common.{sym, ◌∙◌}
use Rattle.field.specs.Field.{F, ◌⊙◌}
use Rattle.series.specs.Series.{Series, K, Z, ◌⊞◌, ◌⊠◌, tail, ⊞_assoc}
use Rattle.series.specs.Shift.{cut}
use Rattle.series.specs.Degree.{below, below-cut_eq, below-⊞, below-K-⊠, below-tail_weak}
use Rattle.polynomial.specs.Polynomial.{cut-add}
use Rattle.key_equation.specs.Lookahead.{State, next_Λ, next_Δ, next_δS}

abbrev pub stepped : ℕ → Series → State → (B : Series) (γ : F) (k : ℤ) (Θ : Series) (θS : F) → State
stepped r S s B γ k Θ θS = record {
  Λ = cut 49 (next_Λ s);
  B = B;
  γ = γ;
  k = k;
  Δ = cut 49 (next_Δ s);
  Θ = Θ;
  γS = γ ⊙ S (r + 2);
  δS = next_δS s;
  θS = θS;
  g1 = S (r + 2) ⊙ S (r + 4);
  g2 = S (r + 3) ⊙ S (r + 4);
  h1 = γ ⊙ S (r + 3);
  h2 = γ ⊙ s.g2;
}

-- ---- polynomials of 49 coefficients

module _ (s : State) (l : below 49 s.Λ) (d : below 49 s.Δ) where
  pub cut-Δ : below 49 s.Θ
      → K s.γ ⊠ tail s.Δ ⊞ K s.γS ⊠ s.Λ ⊞ (K (s.Δ 0) ⊠ s.Θ ⊞ K s.δS ⊠ cut 49 (Z ⊠ s.B))
      ≡ cut 49 (next_Δ s)
  cut-Δ t =
      sym (⊞_assoc _ _ _)
      ∙ cut-add s.δS _ _
      (below-⊞ 49 _ _
      (below-⊞ 49 _ _ (below-K-⊠ 49 _ _ (below-tail_weak 49 _ d)) (below-K-⊠ 49 _ _ l)) (below-K-⊠ 49 _ _ t))

  pub cut-swap-Θ : (a : F) → tail s.Δ ⊞ K a ⊠ s.Λ ≡ cut 49 (tail s.Δ ⊞ K a ⊠ s.Λ)
  cut-swap-Θ a = sym (below-cut_eq 49 _ (below-⊞ 49 _ _ (below-tail_weak 49 _ d) (below-K-⊠ 49 _ _ l)))
