-- The agreement, FORMAT 8.15, clause by clause: each form against the plain iteration over the joined syndromes.
--
--   PlainAgrees, LookaheadAgrees, ScaledAgrees   the clauses for a run in that form, after some of its events
--   Agreed rounds k                              the claim of a list of rounds, after its first k events
--   lookahead_is, scaled_is                      the whole states, as defined from the measure
use Rattle.std.specs.Prelude.{ℕ, ◌+◌, ◌-◌, ◌≡◌, ◌≢◌, Bool, cond, List}
use Rattle.field.specs.Field.{F, 𝟎, 𝟏, ◌⊙◌, inv, is_zero}
use Rattle.series.specs.Series.{Series, ◌⊠◌, K}
use Rattle.series.specs.Word.{entry}
use Rattle.key_equation.specs.Shared.{ahead, from_to, or_one, len}
use Rattle.key_equation.specs.Plain as Plain
use Rattle.key_equation.specs.Lookahead as Lookahead
use Rattle.key_equation.specs.Scaled as Scaled
use Rattle.key_equation.specs.Run.{Factors, At, plain, lookahead, scaled, run, iterations, so_far, joined}
use Rattle.key_equation.specs.Run.{measure, measure_swapped, factors}

-- After r iterations: S the syndromes so far, 0 past the round; m the measure, swapped the iterations at which it
-- swapped; p where the run is.

pub record PlainAgrees (r : ℕ) (m : Plain.State) (swapped : ℕ → Bool) (p : At plain) : Type 0 where
  -- the form has swapped at those iterations at which the measure did, and at no other
  pub swaps : p.swapped ≡ swapped
  -- it has the measure's k and L
  pub k : p.state.k ≡ m.k
  pub L : len r p.state.k ≡ len r m.k
  -- it has the measure's Λ, B and γ
  pub Λ : p.state.Λ ≡ m.Λ
  pub B : p.state.B ≡ m.B
  pub γ : p.state.γ ≡ m.γ

pub record LookaheadAgrees (r : ℕ) (S : Series) (m : Plain.State) (swapped : ℕ → Bool) (p : At lookahead) : Type 0 where
  -- the form has swapped at those iterations at which the measure did, and at no other
  pub swaps : p.swapped ≡ swapped
  -- it has the measure's k and L
  pub k : p.state.k ≡ m.k
  pub L : len r p.state.k ≡ len r m.k
  -- it has the measure's Λ, B and γ
  pub Λ : p.state.Λ ≡ m.Λ
  pub B : p.state.B ≡ m.B
  pub γ : p.state.γ ≡ m.γ
  -- Δ and Θ are as FORMAT 8.7 says
  pub Δ : (j : ℕ) → p.state.Δ j ≡ from_to j (r + j) (λ i. m.Λ i ⊙ S (r + j - i))
  pub Θ : (j : ℕ) → p.state.Θ j ≡ from_to j (r + j) (λ i. m.B i ⊙ S (r + j - i))
  -- each held scalar is as FORMAT 8.7 says
  pub γS : p.state.γS ≡ p.state.γ ⊙ S (r + 1)
  pub δS : p.state.δS ≡ p.state.Δ 0 ⊙ S (r + 1)
  pub θS : p.state.θS ≡ p.state.Θ 0 ⊙ S (r + 2)
  pub g1 : p.state.g1 ≡ S (r + 1) ⊙ S (r + 3)
  pub g2 : p.state.g2 ≡ S (r + 2) ⊙ S (r + 3)
  pub h1 : p.state.h1 ≡ p.state.γ ⊙ S (r + 2)
  pub h2 : p.state.h2 ≡ p.state.γ ⊙ S (r + 1) ⊙ S (r + 2)

-- x is the factors a and b
pub record ScaledAgrees (r : ℕ) (S : Series) (m : Plain.State) (x : Factors) (swapped : ℕ → Bool)
    (p : At scaled) : Type 0 where
  -- the form has swapped at those iterations at which the measure did, and at no other
  pub swaps : p.swapped ≡ swapped
  -- it has the measure's k and L
  pub k : p.state.k ≡ m.k
  pub L : len r p.state.k ≡ len r m.k
  -- neither a nor b is zero, and neither a × S'_r nor b × S'_r is
  pub a≢0 : x.a ≢ 𝟎
  pub b≢0 : x.b ≢ 𝟎
  pub aS≢0 : x.a ⊙ or_one (S r) ≢ 𝟎
  pub bS≢0 : x.b ⊙ or_one (S r) ≢ 𝟎
  -- a × S'_r and b × S'_r are the factors of Λ and B, and γ' is b × γ
  pub Λ : p.state.Λ ≡ K (x.a ⊙ or_one (S r)) ⊠ m.Λ
  pub B : p.state.B ≡ K (x.b ⊙ or_one (S r)) ⊠ m.B
  pub γ' : p.state.γ' ≡ x.b ⊙ m.γ
  -- Δ is a times the first of the sums of FORMAT 8.7, Θ is b times the second
  pub Δ : (j : ℕ) → p.state.Δ j ≡ x.a ⊙ from_to j (r + j) (λ i. m.Λ i ⊙ S (r + j - i))
  pub Θ : (j : ℕ) → p.state.Θ j ≡ x.b ⊙ from_to j (r + j) (λ i. m.B i ⊙ S (r + j - i))
  -- each held scalar is as FORMAT 8.10 says
  pub g : p.state.g ≡ or_one (S (r + 1)) ⊙ inv (or_one (S r))
  pub ρ : p.state.ρ ≡ cond (is_zero (p.state.Δ 0)) 𝟏 p.state.γ'
  pub ξ : p.state.ξ ≡ p.state.Δ 0
  pub ρS : p.state.ρS ≡ p.state.g ⊙ p.state.ρ
  pub ξS : p.state.ξS ≡ p.state.g ⊙ p.state.ξ

-- FORMAT 8.15 of a list of rounds, in all three forms, after its first k events
pub record Agreed (rounds : List (List F)) (k : ℕ) : Type 0 where
  pub in_plain :
      PlainAgrees (iterations rounds k) (measure (entry (joined rounds)) (iterations rounds k))
      (measure_swapped (entry (joined rounds)) (iterations rounds k)) (run plain rounds k)
  pub in_lookahead :
      LookaheadAgrees (iterations rounds k) (so_far rounds k) (measure (entry (joined rounds)) (iterations rounds k))
      (measure_swapped (entry (joined rounds)) (iterations rounds k)) (run lookahead rounds k)
  pub in_scaled :
      ScaledAgrees (iterations rounds k) (so_far rounds k) (measure (entry (joined rounds)) (iterations rounds k))
      (factors (entry (joined rounds)) (iterations rounds k))
      (measure_swapped (entry (joined rounds)) (iterations rounds k)) (run scaled rounds k)

-- ---- the states as defined, from the measure m after r iterations and S, the syndromes so far

abbrev pub lookahead_is : ℕ → Series → Plain.State → Lookahead.State
lookahead_is r S m = record {
  Λ = m.Λ;
  B = m.B;
  γ = m.γ;
  k = m.k;
  Δ = ahead r m.Λ S;
  Θ = ahead r m.B S;
  γS = m.γ ⊙ S (r + 1);
  δS = ahead r m.Λ S 0 ⊙ S (r + 1);
  θS = ahead r m.B S 0 ⊙ S (r + 2);
  g1 = S (r + 1) ⊙ S (r + 3);
  g2 = S (r + 2) ⊙ S (r + 3);
  h1 = m.γ ⊙ S (r + 2);
  h2 = m.γ ⊙ S (r + 1) ⊙ S (r + 2);
}

abbrev pub scaled_is : ℕ → Series → Plain.State → Factors → Scaled.State
scaled_is r S m x = Scaled.holding r S
    (K (x.a ⊙ or_one (S r)) ⊠ m.Λ)
    (K (x.b ⊙ or_one (S r)) ⊠ m.B)
    (x.b ⊙ m.γ)
    m.k
    (K x.a ⊠ ahead r m.Λ S)
    (K x.b ⊠ ahead r m.B S)
