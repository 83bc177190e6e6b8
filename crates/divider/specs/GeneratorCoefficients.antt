-- The coefficients of the generator, each from the one above it.
--
--   stretch f   the polynomial f with αz for z
--   Zech i e    e is the exponent of α^(i+1) + 1: Zech's logarithm
--
-- Proved: the generator of k + 1 roots, stretched, is that of k roots times αz + α^first and a constant (stretched),
-- since the roots are consecutive powers of α. So a coefficient is known from the one above it (coefficient-below), its
-- exponent from that one's (exponent-more). A loop that stores the coefficients from the top down goes on by back_more
-- and ends with the generator (back-all).
use Prim.Native.Nat.{ℕ, zero, suc, ◌+◌, ◌-◌, ◌≤◌, ◌<◌}
use Rattle.std.specs.Prelude.{◌≡◌, ◌≢◌, List, length, set}
use Rattle.std.proofs.Common.{sym, ap₂, ◌∙◌, add-one, arith}
use Rattle.std.proofs.Math.Path.{ap, fun_ext}
use Rattle.field.specs.Field.{F, 𝟎, 𝟏, α, ◌⊕◌, ◌⊙◌, of, pow, ⊕-group, ⊕_lc, ⊕-zero, zero-⊕, ⊙-zero, one-⊙}
use Rattle.field.specs.Field.{⊙-ring, log, pow-zero, pow-suc, pow-add}
use Rattle.field.proofs.Field.{⊙_cancel, pow-log, power_255}
use Rattle.field.proofs.Field.{power_nonzero, power_apart}
use Rattle.series.specs.Series.{Series, O, K, Z, ◌⊞◌, ◌⊠◌, ⊠-ring, ⊞-at, K-suc, K-⊠-at, Z-⊠_at0}
use Rattle.series.specs.Series.{Z-⊠-at, ⊞-⊠, ⊠_assoc, ⊠-zero, head_tail}
use Rattle.series.specs.Shift.{zpow, drop, zpow-suc, zpow-at, zpow-one, zpow-other}
use Rattle.series.specs.Shift.{zpow-low, drop_at0, drop-suc, drop-zpow}
use Rattle.series.specs.Degree.{below, below-⊠, below-zpow, below-drop, below_none}
use Rattle.series.specs.Array.{bytes}
use Rattle.kernel.specs.Store.{bytes-add}
use Rattle.code.specs.Word.{root}
use Rattle.divider.specs.Generator.{generator, rest, aligned, below_rest}

-- ---- the generator stretched

stretch : Series → Series
stretch f i = pow α i ⊙ f i

stretch-one : stretch (K 𝟏) ≡ K 𝟏
unfolding stretch
stretch-one = fun_ext at_i
  where
    at_i : (i : ℕ) → pow α i ⊙ K 𝟏 i ≡ K 𝟏 i
    at_i zero = rw pow-zero (one-⊙ _)
    at_i (suc i) = rw K-suc (⊙-zero _)

-- (z + a) f
stretch-factor : (a : F) (f : Series) → stretch ((Z ⊞ K a) ⊠ f) ≡ (K α ⊠ Z ⊞ K a) ⊠ stretch f
unfolding stretch
stretch-factor a f = fun_ext at_i ∙ shape (stretch f)
  where
    shape : (g : Series) → Z ⊠ (K α ⊠ g) ⊞ K a ⊠ g ≡ (K α ⊠ Z ⊞ K a) ⊠ g
    shape g = simp ⊠-ring

    at_i : (i : ℕ) → pow α i ⊙ ((Z ⊞ K a) ⊠ f) i ≡ (Z ⊠ (K α ⊠ stretch f) ⊞ K a ⊠ stretch f) i
    at_i zero = rw (⊞-⊠, ⊞-at, ⊞-at, K-⊠-at, K-⊠-at, Z-⊠_at0, Z-⊠_at0) (simp ⊙-ring)
    at_i (suc i) = rw (⊞-⊠, ⊞-at, ⊞-at, K-⊠-at, K-⊠-at, Z-⊠-at, Z-⊠-at, K-⊠-at, pow-suc) (simp ⊙-ring)

power-next : (k : ℕ) → pow α (k + 1) ≡ α ⊙ pow α k
power-next k = ap (pow α) (add-one k) ∙ pow-suc α k

root-add : (first k : ℕ) → root first k ≡ pow α first ⊙ pow α k
unfolding root
root-add first k = pow-add α first k

module _ (first : ℕ) where
  stretched : (k : ℕ)
      → stretch (generator first (suc k)) ≡ K (pow α k) ⊠ ((K α ⊠ Z ⊞ K (pow α first)) ⊠ generator first k)
  unfolding generator
  stretched zero = stretch-factor (root first 0) (K 𝟏) ∙ rw (stretch-one, root-add, pow-zero) (shape (pow α first))
    where
      shape : (a : F) → (K α ⊠ Z ⊞ K (a ⊙ 𝟏)) ⊠ K 𝟏 ≡ K 𝟏 ⊠ ((K α ⊠ Z ⊞ K a) ⊠ K 𝟏)
      shape a = simp ⊠-ring
  stretched (suc k) =
      stretch-factor (root first (suc k)) _
      ∙ rw (stretched k, root-add first (suc k), root-add first k, pow-suc)
      (shape (pow α k) (pow α first) (generator first k))
    where
      shape : (r a : F) (g : Series)
          → (K α ⊠ Z ⊞ K (a ⊙ (α ⊙ r))) ⊠ (K r ⊠ ((K α ⊠ Z ⊞ K a) ⊠ g))
          ≡ K (α ⊙ r) ⊠ ((K α ⊠ Z ⊞ K a) ⊠ ((Z ⊞ K (a ⊙ r)) ⊠ g))
      shape r a g = simp ⊠-ring

  -- ---- a coefficient from the one above it

  coefficient-more : (k i : ℕ)
      → generator first (suc k) (suc i) ≡ generator first k i ⊕ root first k ⊙ generator first k (suc i)
  unfolding generator
  coefficient-more k i = rw (⊞-⊠, ⊞-at, Z-⊠-at, K-⊠-at)

  coefficient_stretched : (k i : ℕ)
      → pow α (i + 1) ⊙ generator first (suc k) (suc i)
      ≡ pow α k ⊙ (α ⊙ generator first k i ⊕ pow α first ⊙ generator first k (suc i))
  unfolding stretch
  coefficient_stretched k i =
      ap (λ (s : F). s ⊙ generator first (suc k) (suc i)) (ap (pow α) (add-one i))
      ∙ ap (λ (f : Series). f (suc i)) (stretched k)
      ∙ rw (K-⊠-at, ⊞-⊠, ⊞-at, ⊠_assoc, K-⊠-at, Z-⊠-at, K-⊠-at)

  coefficient_rule : (k i : ℕ)
      → pow α k ⊙ (pow α first ⊙ ((pow α (i + 1) ⊕ 𝟏) ⊙ generator first k (suc i)))
      ≡ (pow α k ⊕ pow α i) ⊙ (α ⊙ generator first k i)
  coefficient_rule k i =
      ⊕_lc
      (ap (λ (s : F). pow α (i + 1) ⊙ s) (sym (coefficient-more k i)) ∙ coefficient_stretched k i)
      (rw (root-add, power-next i) (simp ⊙-ring))

  -- from the top, with j coefficients above it
  coefficient-below : (k j : ℕ) → j < k
      → (pow α (j + 1) ⊕ 𝟏) ⊙ generator first k (k - (j + 1))
      ≡ pow α j ⊙ (pow α first ⊙ ((pow α (k - (j + 1) + 1) ⊕ 𝟏) ⊙ generator first k (k - j)))
  coefficient-below k j h =
      let e : k ≡ j + (i + 1) = omega arith in
      let d : k - j ≡ suc i = omega arith in
      let split : pow α k ≡ pow α j ⊙ pow α (i + 1) = ap (pow α) e ∙ pow-add α j (i + 1) in
      ⊙_cancel (pow α (i + 1)) (power_nonzero (i + 1))
      (sym (rw d (shape (pow α (i + 1)) (pow α j) above
      ∙ ap (λ (s : F). s ⊙ above) (sym split)
      ∙ coefficient_rule k i
      ∙ ap (λ (s : F). (s ⊕ pow α i) ⊙ (α ⊙ generator first k i)) split
      ∙ rw (power-next i, power-next j) (last (pow α i) (pow α j) (generator first k i)))))
    where
      i : ℕ
      i = k - (j + 1)

      above : F
      above = pow α first ⊙ ((pow α (i + 1) ⊕ 𝟏) ⊙ generator first k (suc i))

      shape : (x a b : F) → x ⊙ (a ⊙ b) ≡ a ⊙ x ⊙ b
      shape x a b = simp ⊙-ring

      last : (x a g : F) → (a ⊙ (α ⊙ x) ⊕ x) ⊙ (α ⊙ g) ≡ α ⊙ x ⊙ ((α ⊙ a ⊕ 𝟏) ⊙ g)
      last x a g = simp ⊙-ring

  pub coefficient-top : (k : ℕ) → generator first k k ≡ 𝟏
  unfolding rest
  coefficient-top k =
      ⊕_lc (sym (⊞-at (generator first k) (zpow k) k) ∙ below_rest first k k (omega arith)) (rw zpow-one (simp ⊕-group))

  -- ---- in exponents

  pub exponent-more : (k j e a b : ℕ) → j < k → b < 256 → pow α e ≡ generator first k (k - j)
      → pow α a ≡ pow α (k - (j + 1) + 1) ⊕ 𝟏
      → pow α b ≡ pow α (j + 1) ⊕ 𝟏 → pow α (e + (first + j + 255 + a) - b) ≡ generator first k (k - (j + 1))
  exponent-more k j e a b h small p q r =
      let s : b + (e + (first + j + 255 + a) - b) ≡ 255 + (j + (first + (a + e))) = omega arith in
      ⊙_cancel (pow α b) (power_nonzero b)
      (sym (pow-add α b _)
      ∙ ap (pow α) s
      ∙ rw (pow-add α 255, pow-add α j, pow-add α first, pow-add α a, power_255, p, q, r)
      (one-⊙ _ ∙ sym (coefficient-below k j h)))

-- ---- Zech's logarithms

abbrev pub Zech : ℕ → ℕ → Type 0
Zech i e = pow α e ≡ pow α (i + 1) ⊕ 𝟏

pub zech-log : (i e : ℕ) (a s x : F) → i < 48 → a ≡ pow α (i + 1) → s ≡ 𝟏 → x ≡ a ⊕ s → e ≡ log x → Zech i e
zech-log i e a s x h ea es ex l = ap (pow α) l ∙ pow-log x nonzero ∙ ex ∙ ap₂ ◌⊕◌ ea es
  where
    nonzero : x ≢ 𝟎
    nonzero z = power_apart (i + 1) 0 (omega arith) (omega arith) (omega arith)
        (ap₂ ◌⊕◌ (sym ea) (pow-zero α ∙ sym es) ∙ sym ex ∙ z)

-- ---- stored from the top down

upper-more : (n : ℕ) (w : Series) → zpow (suc n) ⊠ drop (suc n) w ⊞ K (w n) ⊠ zpow n ≡ zpow n ⊠ drop n w
upper-more n w =
    sym (ap (λ (f : Series). zpow n ⊠ f) (head_tail (drop n w)) ∙ rw (drop_at0, ← drop-suc n w, zpow-suc) (simp ⊠-ring))

module _ (first : ℕ) where
  aligned_at : (k i : ℕ) → k ≤ 48 → i < k → aligned first k (48 - k + i) ≡ generator first k i
  unfolding aligned rest
  aligned_at k i h l = zpow-at (48 - k) (rest first k) i ∙ ⊞-at (generator first k) (zpow k) i
      ∙ ap (λ (s : F). generator first k i ⊕ s) (zpow-other k i (omega arith)) ∙ ⊕-zero _

  pub aligned-low : (k i : ℕ) → i < 48 - k → aligned first k i ≡ 𝟎
  unfolding aligned
  aligned-low k = zpow-low (48 - k) (rest first k)

  below-aligned : (k : ℕ) → k ≤ 48 → below 48 (aligned first k)
  unfolding aligned
  below-aligned k h = below-⊠ (suc (48 - k)) k 48 (zpow (48 - k)) (rest first k) (below-zpow (48 - k))
      (below_rest first k) (omega arith)

  pub back_none : (k : ℕ) → k ≤ 48 → O ≡ zpow 48 ⊠ drop 48 (aligned first k)
  back_none k h =
      sym (ap (λ (f : Series). zpow 48 ⊠ f) (below_none _ (below-drop 48 48 _ (below-aligned k h))) ∙ ⊠-zero _)

  pub back_more : (l : List ℕ) (k j v : ℕ) → k ≤ 48 → j < k → length l ≡ 48
      → bytes l ≡ zpow (48 - j) ⊠ drop (48 - j) (aligned first k)
      → of v ≡ generator first k (k - (j + 1))
      → bytes (set l (48 - (j + 1)) v) ≡ zpow (48 - (j + 1)) ⊠ drop (48 - (j + 1)) (aligned first k)
  back_more l k j v h m long e q =
      let s : 48 - j ≡ suc n = omega arith in
      let d : 48 - k + (k - (j + 1)) ≡ n = omega arith in
      let here : of v ≡ aligned first k n = q ∙ sym (aligned_at k (k - (j + 1)) h (omega arith))
      ∙ ap (aligned first k) d in
      bytes-add l n v (aligned first k n) (omega arith)
      (here ∙ sym (ap (λ (x : F). x ⊕ aligned first k n) (none s) ∙ zero-⊕ _))
      ∙ ap (λ (f : Series). f ⊞ K (aligned first k n) ⊠ zpow n)
      (e ∙ ap (λ (m : ℕ). zpow m ⊠ drop m (aligned first k)) s)
      ∙ upper-more n (aligned first k)
    where
      n : ℕ
      n = 48 - (j + 1)

      none : 48 - j ≡ suc n → bytes l n ≡ 𝟎
      none s = ap (λ (f : Series). f n) (e ∙ ap (λ (m : ℕ). zpow m ⊠ drop m (aligned first k)) s)
          ∙ zpow-low (suc n) (drop (suc n) (aligned first k)) n (omega arith)

  pub back-all : (k : ℕ) → zpow (48 - k) ⊠ drop (48 - k) (aligned first k) ≡ aligned first k
  unfolding aligned
  back-all k = ap (λ (f : Series). zpow (48 - k) ⊠ f) (drop-zpow (48 - k) (rest first k))
