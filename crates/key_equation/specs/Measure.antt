-- The measure and the factors.
--
-- Proved: γ is never zero (measure-γ), nor is a factor (factors_nonzero); after r iterations Λ and B have coefficients
-- 0 to r alone (measure-below); iteration r reads the syndromes up to r alone (δ-agree), so that syndromes that agree
-- below r give the same measure (measure-agree) and the same factors (factors-agree).
use Rattle.std.specs.Prelude.{ℕ, zero, suc, ◌≡◌, refl, Bool, true, false, cond, ◌≢◌}
use Rattle.std.proofs.Common.{sym, ap, ◌∙◌, arith}
use Rattle.field.specs.Field.{F, 𝟎, 𝟏, ◌⊙◌, inv, is_zero, one≢zero, is_zero_false}
use Rattle.field.proofs.Field.{inv_nonzero, ⊙_nonzero}
use Rattle.series.specs.Series.{Series}
use Rattle.series.specs.Degree.{below, below_weaken, below-K, below-⊞, below-K-⊠, below-Z-⊠}
use Rattle.key_equation.specs.Plain as Plain
use Rattle.key_equation.specs.Run.{Factors, next_factors, measure, factors}
use Rattle.key_equation.specs.Ahead.{Agree, δ-ahead, ahead-agree, swaps_nonzero}

-- ---- never zero

pub measure-γ : (S : Series) (r : ℕ) → (measure S r).γ ≢ 𝟎
unfolding measure Plain.iterate
measure-γ S zero = one≢zero
measure-γ S (suc r) = go (measure S r) (measure-γ S r) (Plain.swapping r S (measure S r)) refl
  where
    go : (m : Plain.State) → m.γ ≢ 𝟎 → (b : Bool) → Plain.swapping r S m ≡ b
        → (cond b (Plain.swap (Plain.δ r S m) m) (Plain.hold (Plain.δ r S m) m)).γ ≢ 𝟎
    go m h true e = swaps_nonzero _ m.k e
    go m h false e = h

next_nonzero : (δ γ : F) (swap : Bool) (x : Factors) → γ ≢ 𝟎 → (x.a ≢ 𝟎) × (x.b ≢ 𝟎)
    → ((next_factors δ γ swap x).a ≢ 𝟎) × ((next_factors δ γ swap x).b ≢ 𝟎)
next_nonzero δ γ swap x n (p, q) = go (is_zero δ) refl swap
  where
    go : (z : Bool) → is_zero δ ≡ z → (swap : Bool)
        → (cond z (x.a ⊙ inv γ) (x.a ⊙ x.b) ≢ 𝟎) × (cond z x.b (x.a ⊙ x.b ⊙ cond swap γ δ) ≢ 𝟎)
    go true e swap = (⊙_nonzero _ _ p (inv_nonzero γ n), q)
    go false e true = (⊙_nonzero _ _ p q, ⊙_nonzero _ _ (⊙_nonzero _ _ p q) n)
    go false e false = (⊙_nonzero _ _ p q, ⊙_nonzero _ _ (⊙_nonzero _ _ p q) (is_zero_false δ e))

pub factors_nonzero : (S : Series) (r : ℕ) → ((factors S r).a ≢ 𝟎) × ((factors S r).b ≢ 𝟎)
unfolding factors
factors_nonzero S zero = (one≢zero, one≢zero)
factors_nonzero S (suc r) = next_nonzero _ _ (Plain.swapping r S (measure S r)) _ (measure-γ S r) (factors_nonzero S r)

-- ---- degrees

pub measure-below : (S : Series) (r : ℕ) → below (suc r) (measure S r).Λ × below (suc r) (measure S r).B
unfolding measure Plain.iterate
measure-below S zero = (below-K 𝟏, below-K 𝟏)
measure-below S (suc r) =
    go (measure S r) (measure-below S r) (Plain.δ r S (measure S r)) (Plain.swapping r S (measure S r))
  where
    wider : (f : Series) → below (suc r) f → below (suc (suc r)) f
    wider f p = below_weaken _ _ f p (omega arith)

    go : (m : Plain.State) → below (suc r) m.Λ × below (suc r) m.B → (d : F) (b : Bool)
        → below (suc (suc r)) (cond b (Plain.swap d m) (Plain.hold d m)).Λ
        × below (suc (suc r)) (cond b (Plain.swap d m) (Plain.hold d m)).B
    go m (p, q) d true = (below-⊞ _ _ _ (below-K-⊠ _ _ _ (wider _ p)) (below-K-⊠ _ _ _ (below-Z-⊠ _ _ q)), wider _ p)
    go m (p, q) d false =
        (below-⊞ _ _ _ (below-K-⊠ _ _ _ (wider _ p)) (below-K-⊠ _ _ _ (below-Z-⊠ _ _ q)), below-Z-⊠ _ _ q)

-- ---- only the syndromes up to r count

pub δ-agree : (r : ℕ) (S J : Series) (m : Plain.State) → Agree (suc r) S J → Plain.δ r S m ≡ Plain.δ r J m
δ-agree r S J m h = δ-ahead r S m ∙ ap (λ t. t 0) (ahead-agree r m.Λ S J h) ∙ sym (δ-ahead r J m)

pub measure-agree : (r : ℕ) (S J : Series) → Agree r S J → measure S r ≡ measure J r
unfolding measure Plain.iterate
measure-agree zero S J h = refl
measure-agree (suc r) S J h = rw (measure-agree r S J (λ i l. h i (omega arith)), δ-agree r S J (measure J r) h) refl

pub factors-agree : (r : ℕ) (S J : Series) → Agree r S J → factors S r ≡ factors J r
unfolding factors
factors-agree zero S J h = refl
factors-agree (suc r) S J h =
    let l : Agree r S J = λ i k. h i (omega arith) in
    rw (measure-agree r S J l, factors-agree r S J l, δ-agree r S J (measure J r) h) refl
