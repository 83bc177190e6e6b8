-- Remainders by a monic polynomial of degree 48, one coefficient at a time.
--
--   feed low r x          what z·r + x·z^48 leaves by z^48 + low, for r below 48
--   remainder low n w     what z^48·(w 0 + w 1·z + .. + w (n - 1)·z^(n - 1)) leaves by z^48 + low
--
-- Proved: a loop over an array's symbols, the last first, begins by remainder-start and goes on by remainder-step. The
-- remainder has degree below 48 and, at every root of z^48 + low, the value of what it is the remainder of
-- (remainder-value). A polynomial of lower degree k stands at the top, times z^(48 - k): so does the remainder by it
-- (remainder-top).
use Rattle.std.specs.Prelude.{ℕ, zero, suc, ◌+◌, ◌-◌, ◌≤◌, ◌<◌, ◌≡◌, refl, ◌≢◌, List, length, get_or}
use Rattle.std.proofs.Common.{sym, ap, ap₂, ◌∙◌, arith}
use Rattle.field.specs.Field.{F, 𝟎, ◌⊕◌, ◌⊙◌, of, zero-⊕, ⊙-zero, ⊙_assoc, ⊙-ring, pow, pow-add}
use Rattle.field.proofs.Field.{⊙_cancel, pow_nonzero}
use Rattle.series.specs.Series.{Series, O, K, Z, ◌⊞◌, ◌⊠◌, tail, ⊠-ring, O-at, ⊞-at, K-⊠-at, Z-⊠_at0, Z-⊠-at}
use Rattle.series.specs.Shift.{zpow, drop, cut, zpow-suc, zpow-low, zpow-other, zpow_divide}
use Rattle.series.specs.Shift.{drop_at0, drop-suc, drop-zpow, cut-suc}
use Rattle.series.specs.Degree.{below, below-O, below-⊞, below-⊠, below-K-⊠, below-Z-⊠}
use Rattle.series.specs.Degree.{below-cut, below-cut_eq, below-zpow}
use Rattle.series.specs.Array.{bytes, read_at}
use Rattle.series.specs.Value.{value, value_none, value_head, value-more, value-zero, value_split, value-⊞}
use Rattle.series.specs.Value.{value-K-⊠, value-Z-⊠, value-zpow}

unfoldable pub feed : Series → Series → F → Series
feed low r x = Z ⊠ r ⊞ K (r 47) ⊠ zpow 48 ⊞ K (r 47 ⊕ x) ⊠ low

unfoldable pub remainder : Series → ℕ → Series → Series
remainder low zero w = O
remainder low (suc n) w = feed low (remainder low n (tail w)) (w 0)

remainder-none : (low w : Series) → remainder low 0 w ≡ O
unfolding remainder
remainder-none low w = refl

-- from the top: the coefficients from p on, and one more
remainder-more : (low : Series) (n : ℕ) (w : Series) (p : ℕ) → 0 < p → p ≤ n
    → remainder low (n - (p - 1)) (drop (p - 1) w) ≡ feed low (remainder low (n - p) (drop p w)) (w (p - 1))
unfolding remainder
remainder-more low n w zero h l = absurd (omega arith)
remainder-more low n w (suc p) h l =
    let e : suc p - 1 ≡ p = omega arith in
    let k : n - p ≡ suc (n - suc p) = omega arith in
    rw (e, k, drop_at0, drop-suc)

-- the same of the symbols of an array: how a loop that goes down from the last one begins and goes on
pub remainder-start : (low : Series) (l : List ℕ) (p : ℕ) (r : Series) → length l ≡ p → r ≡ O
    → r ≡ remainder low (length l - p) (drop p (bytes l))
remainder-start low l p r h z = let e : length l - p ≡ 0 = omega arith in z ∙ sym (rw e (remainder-none low _))

pub remainder-step : (low : Series) (l : List ℕ) (p : ℕ) (r q : Series) → 0 < p → p ≤ length l
    → r ≡ remainder low (length l - p) (drop p (bytes l)) → q ≡ feed low r (of (get_or l (p - 1) 0))
    → q ≡ remainder low (length l - (p - 1)) (drop (p - 1) (bytes l))
remainder-step low l p r q h m e s =
    s ∙ ap₂ (feed low) e (sym (read_at of 0 l (p - 1))) ∙ sym (remainder-more low (length l) (bytes l) p h m)

-- ---- degree

-- the coefficient that z moves up to 48 is taken away
feed-low : (low r : Series) (x : F) → below 48 r → feed low r x ≡ Z ⊠ cut 47 r ⊞ K (r 47 ⊕ x) ⊠ low
unfolding feed
feed-low low r x b =
    ap (λ (t : Series). Z ⊠ t ⊞ K (r 47) ⊠ zpow 48 ⊞ K (r 47 ⊕ x) ⊠ low) (sym (below-cut_eq 48 r b) ∙ cut-suc 47 r)
    ∙ rw (zpow-suc 47) (simp ⊠-ring)

below-feed : (low r : Series) (x : F) → below 48 low → below 48 r → below 48 (feed low r x)
below-feed low r x l b i h =
    ap (λ (f : Series). f i) (feed-low low r x b)
    ∙ below-⊞ 48 _ _ (below-Z-⊠ 47 (cut 47 r) (below-cut 47 r)) (below-K-⊠ 48 _ low l) i h

pub below-remainder : (low : Series) (n : ℕ) (w : Series) → below 48 low → below 48 (remainder low n w)
unfolding remainder
below-remainder low zero w l = below-O 48
below-remainder low (suc n) w l = below-feed low _ (w 0) l (below-remainder low n (tail w) l)

-- ---- values

-- z·r + x·z^48, where low has the value of z^48
feed-value : (low r : Series) (x a : F) → below 48 low → below 48 r → value 48 low a ≡ pow a 48
    → value 48 (feed low r x) a ≡ a ⊙ value 48 r a ⊕ x ⊙ pow a 48
unfolding feed
feed-value low r x a l b e = sym (value-more 48 49 (feed low r x) a (below-feed low r x l b) (omega arith)) ∙ wide
  where
    low_wide : value 49 low a ≡ pow a 48
    low_wide = value-more 48 49 low a l (omega arith) ∙ e

    wide : value 49 (feed low r x) a ≡ a ⊙ value 48 r a ⊕ x ⊙ pow a 48
    wide =
        rw (value-⊞, value-⊞, value-K-⊠, value-K-⊠, value-Z-⊠, value-zpow 48 49 a (omega arith), low_wide) (simp ⊙-ring)

pub remainder-value : (low : Series) (n : ℕ) (w : Series) (a : F) → below 48 low → value 48 low a ≡ pow a 48
    → value 48 (remainder low n w) a ≡ pow a 48 ⊙ value n w a
unfolding remainder
remainder-value low zero w a l e = value-zero 48 O a (λ i h. O-at i)
    ∙ sym (ap (λ (s : F). pow a 48 ⊙ s) (value_none w a) ∙ ⊙-zero _)
remainder-value low (suc n) w a l e =
    feed-value low _ (w 0) a l (below-remainder low n (tail w) l) e
    ∙ rw (remainder-value low n (tail w) a l e, value_head n w a) (simp ⊙-ring)

-- ---- a polynomial at the top

feed-zeros : (s : ℕ) (low r : Series) (x : F) → s ≤ 48 → ((i : ℕ) → i < s → low i ≡ 𝟎) → ((i : ℕ) → i < s → r i ≡ 𝟎)
    → (i : ℕ) → i < s → feed low r x i ≡ 𝟎
unfolding feed
feed-zeros s low r x b l z i h =
    rw (⊞-at, ⊞-at, K-⊠-at, K-⊠-at, up i h, zpow-other 48 i (omega arith), l i h) (simp ⊙-ring)
  where
    up : (i : ℕ) → i < s → (Z ⊠ r) i ≡ 𝟎
    up zero h = Z-⊠_at0 r
    up (suc i) h = Z-⊠-at r i ∙ z i (omega arith)

remainder-zeros : (s : ℕ) (low : Series) (n : ℕ) (w : Series) → s ≤ 48 → ((i : ℕ) → i < s → low i ≡ 𝟎) → (i : ℕ) → i < s
    → remainder low n w i ≡ 𝟎
unfolding remainder
remainder-zeros s low zero w b l i h = O-at i
remainder-zeros s low (suc n) w b l i h = feed-zeros s low _ (w 0) b l (remainder-zeros s low n (tail w) b l) i h

-- the value of what stands times z^(48 - k)
value-top : (k : ℕ) (f : Series) (a : F) → k ≤ 48 → value 48 (zpow (48 - k) ⊠ f) a ≡ pow a (48 - k) ⊙ value k f a
value-top k f a h =
    let e : 48 ≡ (48 - k) + k = omega arith in
    ap (λ (n : ℕ). value n (zpow (48 - k) ⊠ f) a) e
    ∙ value_split (48 - k) k _ a
    ∙ rw (value-zero (48 - k) _ a (zpow-low (48 - k) f), drop-zpow) (zero-⊕ _)

pow-top : (k : ℕ) (a : F) → k ≤ 48 → pow a 48 ≡ pow a (48 - k) ⊙ pow a k
pow-top k a h =
    let e : 48 ≡ (48 - k) + k = omega arith in
    ap (pow a) e ∙ pow-add a (48 - k) k

below_top : (k : ℕ) (g : Series) → k ≤ 48 → below k g → below 48 (zpow (48 - k) ⊠ g)
below_top k g h b = below-⊠ (suc (48 - k)) k 48 (zpow (48 - k)) g (below-zpow (48 - k)) b (omega arith)

pub remainder-top : (k : ℕ) (g low : Series) (n : ℕ) (w : Series) (a : F)
    → k ≤ 48 → low ≡ zpow (48 - k) ⊠ g → below k g → a ≢ 𝟎
    → value k g a ≡ pow a k → value k (drop (48 - k) (remainder low n w)) a ≡ pow a k ⊙ value n w a
remainder-top k g low n w a h q b z e =
    ⊙_cancel (pow a (48 - k)) (pow_nonzero a (48 - k) z)
    (sym (ap (λ (f : Series). value 48 f a) (zpow_divide (48 - k) R zeros) ∙ value-top k (drop (48 - k) R) a h)
    ∙ remainder-value low n w a (rw q (below_top k g h b)) whole
    ∙ ap (λ (s : F). s ⊙ value n w a) (pow-top k a h)
    ∙ ⊙_assoc _ _ _)
  where
    R : Series
    R = remainder low n w

    zeros : (i : ℕ) → i < 48 - k → R i ≡ 𝟎
    zeros = remainder-zeros (48 - k) low n w (omega arith) (λ i l. ap (λ (f : Series). f i) q ∙ zpow-low (48 - k) g i l)

    whole : value 48 low a ≡ pow a 48
    whole = ap (λ (f : Series). value 48 f a) q ∙ value-top k g a h
        ∙ ap (λ (s : F). pow a (48 - k) ⊙ s) e ∙ sym (pow-top k a h)
