-- Newton's polynomials at the powers of α, and sums with them in place of sums with powers.
--
--   newton i k    (x + α^0)(x + α^1) .. (x + α^(i-1)) at x = α^k: zero for k below i, and not zero from i on
--
-- Proved, for values x 0, .., x (m - 1): the sums over k of α^(k l) · x k with l ≤ L are all zero just where those of
-- newton i k · x k with i ≤ L are (newton-zero, power_zero).
use Rattle.std.specs.Prelude.{ℕ, zero, suc, ◌+◌, ◌*◌, ◌≤◌, ◌<◌, ◌≡◌, refl, ◌≢◌}
use Rattle.std.proofs.Math.Path.{sym}
use Rattle.std.proofs.Common.{◌∙◌, ap, ap₂, mul-zero, mul-suc, arith}
use Rattle.std.proofs.Math.Decide.{dec_le}
use Rattle.field.specs.Field.{F, 𝟎, 𝟏, α, ◌⊕◌, ◌⊙◌, ⊕_self, ⊕-group, ⊙-zero, zero-⊙, ⊙-one, one-⊙, ⊙-ring, one≢zero}
use Rattle.field.specs.Field.{pow, pow-zero, pow-add}
use Rattle.field.proofs.Field.{⊙_nonzero, power_apart}
use Rattle.series.specs.Sum.{sum, sum_cong, sum-⊕, ⊙-sum}

unfoldable pub newton : ℕ → ℕ → F
newton zero k = 𝟏
newton (suc i) k = newton i k ⊙ (pow α k ⊕ pow α i)

pub newton-none : (k : ℕ) → newton 0 k ≡ 𝟏
unfolding newton
newton-none k = refl

pub newton-suc : (i k : ℕ) → newton (suc i) k ≡ newton i k ⊙ (pow α k ⊕ pow α i)
unfolding newton
newton-suc i k = refl

pub newton-low : (i k : ℕ) → k < i → newton i k ≡ 𝟎
newton-low zero k h = absurd (omega arith)
newton-low (suc i) k h = newton-suc i k ∙ go (newton-low i k) (dec_le i k)
  where
    go : (k < i → newton i k ≡ 𝟎) → Dec (i ≤ k) → newton i k ⊙ (pow α k ⊕ pow α i) ≡ 𝟎
    go ih (no l) = rw (ih (omega arith)) (zero-⊙ _)
    go ih (yes l) = let e : k ≡ i = omega arith in rw (e, ⊕_self) (⊙-zero _)

pub newton_nonzero : (i k : ℕ) → i ≤ k → k < 255 → newton i k ≢ 𝟎
unfolding newton
newton_nonzero zero k h q = one≢zero
newton_nonzero (suc i) k h q =
    ⊙_nonzero _ _ (newton_nonzero i k (omega arith) q) (power_apart k i q (omega arith) (omega arith))

-- ---- sums

module _ (m : ℕ) (x : ℕ → F) where
  -- a powers of α^k and Newton's polynomial i
  mixed : ℕ → ℕ → F
  mixed a i = sum m (λ k. (pow α (k * a) ⊙ newton i k) ⊙ x k)

  mixed-power : (a i : ℕ) → mixed (suc a) i ≡ mixed a (suc i) ⊕ pow α i ⊙ mixed a i
  unfolding mixed
  mixed-power a i =
      sym (ap (λ t. mixed a (suc i) ⊕ t) (⊙-sum (pow α i) m _)
      ∙ sym (sum-⊕ m _ _)
      ∙ sum_cong m _ _ (λ k l. rw (mul-suc, pow-add, newton-suc) (simp ⊙-ring)))

  mixed-newton : (a i : ℕ) → mixed a (suc i) ≡ mixed (suc a) i ⊕ pow α i ⊙ mixed a i
  mixed-newton a i = rw mixed-power (simp ⊕-group)

  from-powers : (L : ℕ) → ((l : ℕ) → l ≤ L → mixed l 0 ≡ 𝟎) → (i a : ℕ) → a + i ≤ L → mixed a i ≡ 𝟎
  from-powers L h zero a q = h a (omega arith)
  from-powers L h (suc i) a q =
      mixed-newton a i
      ∙ ap₂ (λ u w. u ⊕ pow α i ⊙ w) (from-powers L h i (suc a) (omega arith)) (from-powers L h i a (omega arith))
      ∙ simp ⊙-ring

  from-newton : (L : ℕ) → ((i : ℕ) → i ≤ L → mixed 0 i ≡ 𝟎) → (a i : ℕ) → a + i ≤ L → mixed a i ≡ 𝟎
  from-newton L h zero i q = h i (omega arith)
  from-newton L h (suc a) i q =
      mixed-power a i
      ∙ ap₂ (λ u w. u ⊕ pow α i ⊙ w) (from-newton L h a (suc i) (omega arith)) (from-newton L h a i (omega arith))
      ∙ simp ⊙-ring

  power-is : (l : ℕ) → mixed l 0 ≡ sum m (λ k. pow α (k * l) ⊙ x k)
  unfolding mixed
  power-is l = sum_cong m _ _ (λ k q. rw (newton-none, ⊙-one))

  newton_is : (i : ℕ) → mixed 0 i ≡ sum m (λ k. newton i k ⊙ x k)
  unfolding mixed
  newton_is i = sum_cong m _ _ (λ k q. rw (mul-zero, pow-zero, one-⊙))

  pub newton-zero : (L : ℕ) → ((l : ℕ) → l ≤ L → sum m (λ k. pow α (k * l) ⊙ x k) ≡ 𝟎)
      → sum m (λ k. newton L k ⊙ x k) ≡ 𝟎
  newton-zero L h = sym (newton_is L) ∙ from-powers L (λ l q. power-is l ∙ h l q) L 0 (omega arith)

  pub power_zero : (L : ℕ) → ((i : ℕ) → i ≤ L → sum m (λ k. newton i k ⊙ x k) ≡ 𝟎)
      → sum m (λ k. pow α (k * L) ⊙ x k) ≡ 𝟎
  power_zero L h = sym (power-is L) ∙ from-newton L (λ i q. newton_is i ∙ h i q) L 0 (omega arith)
