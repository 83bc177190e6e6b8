-- Powers of z, division by them, and the part below them.
--
--   zpow n      z^n
--   drop n f    f divided by z^n, what stands below coefficient n dropped: its coefficient i is f (n + i)
--   cut n f     f modulo z^n: the coefficients below n, then zeros
--   zpow-ring   ⊠-ring with z^0 = 1 and z^(n+1) = z·z^n
--
-- Proved: the coefficients of z^n·f, cancelling of z^n, f = cut n f + z^n·drop n f, and how drop and cut pass through
-- sums and products.
use Rattle.std.specs.Prelude.{ℕ, zero, suc, ◌+◌, ◌-◌, ◌≤◌, ◌<◌, ◌≡◌, refl, ◌≢◌}
use Rattle.std.proofs.Common.{sym, ap, ◌∙◌, zero-add, suc-add, add-zero, add-suc, add-one, arith}
use Rattle.std.proofs.Math.Path.{fun_ext}
use Rattle.std.proofs.Math.Logic.{ite, if_pos, if_neg}
use Rattle.std.proofs.Math.Decide.{dec_lt, ℕ_discrete}
use Rattle.field.specs.Field.{F, 𝟎, 𝟏, zero-⊕, ⊕-zero, one-⊙, ⊙-one, ⊙-zero}
use Rattle.series.specs.Series.{Series, O, K, Z, ◌⊞◌, ◌⊠◌, tail, ⊠-ring, O-at, K_at0, K-suc, ⊞-at, tail_at}
use Rattle.series.specs.Series.{K-⊠-at, Z-⊠_at0, Z-⊠-at, ⊞-zero, ⊠_assoc, ⊠-one, one-⊠, zero-⊠, K-zero, ⊠-agree}

unfoldable pub zpow : ℕ → Series
zpow zero = K 𝟏
zpow (suc n) = Z ⊠ zpow n

unfoldable pub drop : ℕ → Series → Series
drop n f i = f (n + i)

unfoldable pub cut : ℕ → Series → Series
cut n f i = ite (dec_lt i n) (f i) 𝟎

-- two series are equal if they agree below n and from n on
split_ext : (n : ℕ) (f g : Series) → ((i : ℕ) → i < n → f i ≡ g i) → ((i : ℕ) → f (n + i) ≡ g (n + i)) → f ≡ g
split_ext n f g low high = fun_ext (λ i. go i (dec_lt i n))
  where
    go : (i : ℕ) → Dec (i < n) → f i ≡ g i
    go i (yes l) = low i l
    go i (no l) = let e : i ≡ n + (i - n) = omega arith in rw e (high (i - n))

-- ---- powers of z

pub zpow-zero : zpow 0 ≡ K 𝟏
unfolding zpow
zpow-zero = refl

pub zpow-suc : (n : ℕ) → zpow (suc n) ≡ Z ⊠ zpow n
unfolding zpow
zpow-suc n = refl

pub ruleset zpow-ring = (⊠-ring, zpow-zero, zpow-suc)

pub zpow-add : (m n : ℕ) → zpow (m + n) ≡ zpow m ⊠ zpow n
zpow-add zero n = simp (zero-add, zpow-zero, one-⊠)
zpow-add (suc m) n = simp (suc-add, zpow-suc, zpow-add m n, ⊠_assoc)

pub zpow-at : (n : ℕ) (f : Series) (i : ℕ) → (zpow n ⊠ f) (n + i) ≡ f i
zpow-at zero f i = simp (zpow-zero, zero-add, K-⊠-at, one-⊙)
zpow-at (suc n) f i = rw (zpow-suc, ⊠_assoc, suc-add, Z-⊠-at) (zpow-at n f i)

pub zpow_at0 : (n : ℕ) (f : Series) → (zpow n ⊠ f) n ≡ f 0
zpow_at0 n f = rw add-zero at (zpow-at n f 0)

pub zpow-low : (n : ℕ) (f : Series) (i : ℕ) → i < n → (zpow n ⊠ f) i ≡ 𝟎
zpow-low zero f i h = absurd (omega arith)
zpow-low (suc n) f zero h = rw (zpow-suc, ⊠_assoc) (Z-⊠_at0 _)
zpow-low (suc n) f (suc i) h = rw (zpow-suc, ⊠_assoc, Z-⊠-at) (zpow-low n f i (omega arith))

pub zpow-one : (n : ℕ) → zpow n n ≡ 𝟏
zpow-one n = rw ⊠-one at (zpow_at0 n (K 𝟏)) ∙ K_at0 𝟏

pub zpow-other : (n i : ℕ) → i ≢ n → zpow n i ≡ 𝟎
zpow-other zero zero h = absurd (h refl)
zpow-other zero (suc i) h = rw zpow-zero (K-suc 𝟏 i)
zpow-other (suc n) zero h = rw zpow-suc (Z-⊠_at0 (zpow n))
zpow-other (suc n) (suc i) h = rw (zpow-suc, Z-⊠-at) (zpow-other n i (λ e. h (ap suc e)))

pub zpow_cancel : (n : ℕ) (f g : Series) → zpow n ⊠ f ≡ zpow n ⊠ g → f ≡ g
zpow_cancel n f g h = fun_ext (λ i. sym (zpow-at n f i) ∙ ap (λ t. t (n + i)) h ∙ zpow-at n g i)

-- ---- what stands from coefficient n on

pub drop_at : (n : ℕ) (f : Series) (i : ℕ) → drop n f i ≡ f (n + i)
unfolding drop
drop_at n f i = refl

pub drop_at0 : (n : ℕ) (f : Series) → drop n f 0 ≡ f n
drop_at0 n f = simp (drop_at, add-zero)

pub drop-none : (f : Series) → drop 0 f ≡ f
drop-none f = fun_ext (λ i. simp (drop_at, zero-add))

pub drop-suc : (n : ℕ) (f : Series) → drop (suc n) f ≡ tail (drop n f)
drop-suc n f = fun_ext (λ i. simp (drop_at, tail_at, suc-add, add-suc))

pub drop-⊞ : (n : ℕ) (f g : Series) → drop n (f ⊞ g) ≡ drop n f ⊞ drop n g
drop-⊞ n f g = fun_ext (λ i. simp (drop_at, ⊞-at))

pub drop-zpow : (n : ℕ) (f : Series) → drop n (zpow n ⊠ f) ≡ f
drop-zpow n f = fun_ext (λ i. simp (drop_at, zpow-at))

pub zpow_divide : (n : ℕ) (f : Series) → ((i : ℕ) → i < n → f i ≡ 𝟎) → f ≡ zpow n ⊠ drop n f
zpow_divide n f h =
    split_ext n _ _ (λ i l. h i l ∙ sym (zpow-low n _ i l)) (λ i. sym (zpow-at n (drop n f) i ∙ drop_at n f i))

-- ---- the coefficients below n

pub cut_low : (n : ℕ) (f : Series) (i : ℕ) → i < n → cut n f i ≡ f i
unfolding cut
cut_low n f i h = if_pos (dec_lt i n) h (f i) 𝟎

pub cut_high : (n : ℕ) (f : Series) (i : ℕ) → n ≤ i → cut n f i ≡ 𝟎
unfolding cut
cut_high n f i h = if_neg (dec_lt i n) (omega arith) (f i) 𝟎

pub cut_unique : (n : ℕ) (f g : Series) → ((i : ℕ) → i < n → f i ≡ g i) → ((i : ℕ) → n ≤ i → g i ≡ 𝟎) → cut n f ≡ g
cut_unique n f g low high =
    split_ext n _ _ (λ i l. cut_low n f i l ∙ low i l)
    (λ i. cut_high n f (n + i) (omega arith) ∙ sym (high (n + i) (omega arith)))

pub cut-none : (f : Series) → cut 0 f ≡ O
cut-none f = cut_unique 0 f O (λ i l. absurd (omega arith)) (λ i l. O-at i)

pub cut-suc : (n : ℕ) (f : Series) → cut (suc n) f ≡ cut n f ⊞ K (f n) ⊠ zpow n
cut-suc n f = cut_unique (suc n) f _ (λ i l. low i l (ℕ_discrete i n)) (λ i l. high i l)
  where
    low : (i : ℕ) → i < suc n → Dec (i ≡ n) → f i ≡ (cut n f ⊞ K (f n) ⊠ zpow n) i
    low i l (yes e) = rw e (simp (⊞-at, K-⊠-at, cut_high n f n (omega arith), zpow-one, ⊙-one, zero-⊕))
    low i l (no e) = simp (⊞-at, K-⊠-at, cut_low n f i (omega arith), zpow-other n i e, ⊙-zero, ⊕-zero)

    high : (i : ℕ) → suc n ≤ i → (cut n f ⊞ K (f n) ⊠ zpow n) i ≡ 𝟎
    high i l = simp (⊞-at, K-⊠-at, cut_high n f i (omega arith), zpow-other n i (omega arith), ⊙-zero, zero-⊕)

-- a coefficient that is zero may be cut off
pub cut-zero : (n : ℕ) (f : Series) → f n ≡ 𝟎 → cut (n + 1) f ≡ cut n f
cut-zero n f h = rw (add-one, cut-suc, h, K-zero, zero-⊠, ⊞-zero)

pub cut_head : (n : ℕ) (f : Series) → cut (suc n) f ≡ K (f 0) ⊞ Z ⊠ cut n (tail f)
cut_head n f = cut_unique (suc n) f _ low high
  where
    low : (i : ℕ) → i < suc n → f i ≡ (K (f 0) ⊞ Z ⊠ cut n (tail f)) i
    low zero l = simp (⊞-at, K_at0, Z-⊠_at0, ⊕-zero)
    low (suc i) l = simp (⊞-at, K-suc, Z-⊠-at, cut_low n (tail f) i (omega arith), tail_at, zero-⊕)

    high : (i : ℕ) → suc n ≤ i → (K (f 0) ⊞ Z ⊠ cut n (tail f)) i ≡ 𝟎
    high zero l = absurd (omega arith)
    high (suc i) l = simp (⊞-at, K-suc, Z-⊠-at, cut_high n (tail f) i (omega arith), zero-⊕)

pub cut-⊞ : (n : ℕ) (f g : Series) → cut n (f ⊞ g) ≡ cut n f ⊞ cut n g
cut-⊞ n f g =
    cut_unique n _ _ (λ i l. simp (⊞-at, cut_low n f i l, cut_low n g i l))
    (λ i l. simp (⊞-at, cut_high n f i l, cut_high n g i l, zero-⊕))

pub cut-K-⊠ : (n : ℕ) (a : F) (f : Series) → cut n (K a ⊠ f) ≡ K a ⊠ cut n f
cut-K-⊠ n a f =
    cut_unique n _ _ (λ i l. rw (K-⊠-at, K-⊠-at a (cut n f), cut_low n f i l))
    (λ i l. rw (K-⊠-at, cut_high n f i l) (⊙-zero a))

pub cut-⊠ : (n : ℕ) (f g : Series) (i : ℕ) → i < n → (f ⊠ cut n g) i ≡ (f ⊠ g) i
cut-⊠ n f g i h = ⊠-agree f (cut n g) g i (λ j l. cut_low n g j (omega arith))

pub cut-drop : (n : ℕ) (f : Series) → f ≡ cut n f ⊞ zpow n ⊠ drop n f
cut-drop n f = split_ext n _ _ low high
  where
    low : (i : ℕ) → i < n → f i ≡ (cut n f ⊞ zpow n ⊠ drop n f) i
    low i l = simp (⊞-at, cut_low n f i l, zpow-low n (drop n f) i l, ⊕-zero)

    high : (i : ℕ) → f (n + i) ≡ (cut n f ⊞ zpow n ⊠ drop n f) (n + i)
    high i = simp (⊞-at, cut_high n f (n + i) (omega arith), zpow-at, drop_at, zero-⊕)
