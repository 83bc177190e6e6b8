-- Values of polynomials, the factor 1 + a z, and the part with odd powers.
--
--   value n f x   f 0 + f 1·x + .. + f (n - 1)·x^(n - 1): the value at x of the polynomial with the first n
--                 coefficients of f
--   lin a         1 + a z
--   geo a         1/(1 + a z) = 1 + a z + a² z² + ..
--   parity i      i as a field value: 𝟏 if i is odd, else 𝟎
--   odd f         the part of f with odd powers. Its coefficient i is i times that of f: z times the formal derivative
--
-- Proved: the first or the last coefficient apart, zeros at the end, a polynomial cut in two, values of sums, of
-- products, of powers of z and of combinations of words; a polynomial with the root 1/a is a multiple of 1 + a z; `odd`
-- is linear and a derivation.
use Rattle.std.specs.Prelude.{ℕ, zero, suc, ◌+◌, ◌-◌, ◌≤◌, ◌<◌, ◌%◌, ◌≡◌, refl, ◌≢◌}
use Rattle.std.proofs.Common.{sym, ap, ap₂, ◌∙◌, zero-add, suc-add, arith}
use Rattle.std.proofs.Math.Path.{fun_ext}
use Rattle.field.specs.Field.{F, 𝟎, 𝟏, ◌⊕◌, ◌⊙◌, ⊕_assoc, ⊕_comm, ⊕_self-left, ⊕-zero, zero-⊕, ⊙_assoc}
use Rattle.field.specs.Field.{⊙-left_comm, ⊙-one, one-⊙, ⊙-zero, zero-⊙, ⊙-⊕, ⊕-⊙, ⊙-ring, pow, pow-zero}
use Rattle.field.specs.Field.{pow-suc, pow-add, pow-⊙, one-pow}
use Rattle.series.specs.Sum.{sum, sum-none, sum-suc, sum_head, sum_cong, sum-zero, sum_more}
use Rattle.series.specs.Sum.{sum_split, sum-⊕, ⊙-sum, sum-⊙, sum-swap}
use Rattle.series.specs.Series.{Series, O, K, Z, ◌⊞◌, ◌⊠◌, tail, ⊠-ring, ⊞_lc, O-at, K_at0, Z_at0, ⊞-at, ⊠-at}
use Rattle.series.specs.Series.{tail_at, K-⊠-at, Z-⊠_at0, zero-⊠, head_tail, tail-Z-⊠}
use Rattle.series.specs.Shift.{zpow, drop, zpow-zero, zpow-suc, drop_at, drop_at0, drop-suc}
use Rattle.series.specs.Degree.{below, below_weaken, below-K, below-Z, below-⊞, below-⊠}
use Rattle.series.specs.Degree.{below-K-⊠, below_none, below-tail}

unfoldable pub value : ℕ → Series → F → F
value n f x = sum n (λ i. f i ⊙ pow x i)

pub value-is : (n : ℕ) (f : Series) (x : F) → value n f x ≡ sum n (λ i. f i ⊙ pow x i)
unfolding value
value-is n f x = refl

pub value_none : (f : Series) (x : F) → value 0 f x ≡ 𝟎
unfolding value
value_none f x = sum-none _

pub value-last : (n : ℕ) (f : Series) (x : F) → value (suc n) f x ≡ value n f x ⊕ f n ⊙ pow x n
unfolding value
value-last n f x = sum-suc n _

pub value_cong : (n : ℕ) (f g : Series) (x : F) → ((i : ℕ) → i < n → f i ≡ g i) → value n f x ≡ value n g x
unfolding value
value_cong n f g x p = sum_cong n _ _ (λ i l. ap (λ t. t ⊙ pow x i) (p i l))

pub value-zero : (n : ℕ) (f : Series) (x : F) → ((i : ℕ) → i < n → f i ≡ 𝟎) → value n f x ≡ 𝟎
unfolding value
value-zero n f x p = sum-zero n _ (λ i l. rw (p i l) (zero-⊙ _))

-- more coefficients than there are
pub value-more : (m n : ℕ) (f : Series) (x : F) → below m f → m ≤ n → value n f x ≡ value m f x
unfolding value
value-more m n f x p h = sum_more m n _ h (λ i l k. rw (p i l) (zero-⊙ _))

pub value_split : (m n : ℕ) (f : Series) (x : F) → value (m + n) f x ≡ value m f x ⊕ pow x m ⊙ value n (drop m f) x
unfolding value
value_split m n f x =
    sum_split m n _
    ∙ ap (λ t. value m f x ⊕ t)
    (sum_cong n _ _ (λ i l. rw (drop_at, pow-add) (⊙-left_comm _ _ _)) ∙ sym (⊙-sum (pow x m) n _))

pub value_head : (n : ℕ) (f : Series) (x : F) → value (suc n) f x ≡ f 0 ⊕ x ⊙ value n (tail f) x
unfolding value
value_head n f x =
    sum_head n _
    ∙ ap₂ ◌⊕◌ (rw pow-zero (⊙-one (f 0)))
    (sum_cong n _ _ (λ i l. rw (tail_at, pow-suc) (⊙-left_comm _ _ _)) ∙ sym (⊙-sum x n _))

-- Horner's rule, from the top
pub value-horner : (n : ℕ) (f : Series) (x : F) (i : ℕ) → 0 < i → i ≤ n
    → value (n - (i - 1)) (drop (i - 1) f) x ≡ x ⊙ value (n - i) (drop i f) x ⊕ f (i - 1)
value-horner n f x zero p h = absurd (omega arith)
value-horner n f x (suc i) p h =
    let e : suc i - 1 ≡ i = omega arith in
    let k : n - i ≡ suc (n - suc i) = omega arith in
    rw (e, k) (value_head (n - suc i) (drop i f) x ∙ rw (drop_at0, ← drop-suc) (⊕_comm _ _))

-- ---- sums and products

pub value-⊞ : (n : ℕ) (f g : Series) (x : F) → value n (f ⊞ g) x ≡ value n f x ⊕ value n g x
unfolding value
value-⊞ n f g x = sum_cong n _ _ (λ i l. rw ⊞-at (⊕-⊙ _ _ _)) ∙ sum-⊕ n _ _

pub value-K-⊠ : (n : ℕ) (a : F) (f : Series) (x : F) → value n (K a ⊠ f) x ≡ a ⊙ value n f x
unfolding value
value-K-⊠ n a f x = sum_cong n _ _ (λ i l. rw K-⊠-at (⊙_assoc _ _ _)) ∙ sym (⊙-sum a n _)

pub value-Z-⊠ : (n : ℕ) (f : Series) (x : F) → value (suc n) (Z ⊠ f) x ≡ x ⊙ value n f x
value-Z-⊠ n f x = value_head n (Z ⊠ f) x ∙ rw (tail-Z-⊠, Z-⊠_at0) (zero-⊕ _)

-- with the same number of coefficients on both sides
pub value_shift : (n k : ℕ) (f : Series) (x : F) → below n f → n < k → value k (Z ⊠ f) x ≡ x ⊙ value k f x
value_shift n zero f x p h = absurd (omega arith)
value_shift n (suc k) f x p h =
    value-Z-⊠ k f x ∙ rw (value-more n k f x p (omega arith), value-more n (suc k) f x p (omega arith))

pub value-K : (n : ℕ) (a x : F) → value (suc n) (K a) x ≡ a
value-K n a x = value-more 1 (suc n) (K a) x (below-K a) (omega arith) ∙ value_head 0 (K a) x
    ∙ simp (value_none, K_at0, ⊙-zero, ⊕-zero)

pub value-zpow : (n k : ℕ) (x : F) → n < k → value k (zpow n) x ≡ pow x n
value-zpow n zero x h = absurd (omega arith)
value-zpow zero (suc k) x h = rw (zpow-zero, pow-zero) (value-K k 𝟏 x)
value-zpow (suc n) (suc k) x h =
    rw (zpow-suc, pow-suc) (value-Z-⊠ k (zpow n) x ∙ ap (λ t. x ⊙ t) (value-zpow n k x (omega arith)))

pub value-⊠ : (m n k : ℕ) (f g : Series) (x : F) → below m f → below n g → m + n ≤ suc k
    → value k (f ⊠ g) x ≡ value m f x ⊙ value n g x
value-⊠ zero n k f g x p q h = rw (below_none f p, zero-⊠, value_none, zero-⊙) (value-zero k O x (λ i l. O-at i))
value-⊠ (suc m) n zero f g x p q h = let e : n ≡ 0 = omega arith in rw e (simp (value_none, ⊙-zero))
value-⊠ (suc m) n (suc k) f g x p q h =
    let e : f ⊠ g ≡ K (f 0) ⊠ g ⊞ Z ⊠ (tail f ⊠ g) = ⊞_lc (λ i. head_tail f i ⊠ g) (simp ⊠-ring) in
    let ih : value k (tail f ⊠ g) x ≡ value m (tail f) x ⊙ value n g x =
    value-⊠ m n k (tail f) g x (below-tail m f p) q (omega arith) in
    ap (λ t. value (suc k) t x) e
    ∙ value-⊞ (suc k) _ _ x
    ∙ rw (value-K-⊠, value-Z-⊠, value-more n (suc k) g x q (omega arith), ih, value_head m f x) (simp ⊙-ring)

-- ---- combinations of words

pub value-sum : (m n : ℕ) (h : ℕ → F) (w : ℕ → Series) (x : F)
    → value n (λ p. sum m (λ i. h i ⊙ w i p)) x ≡ sum m (λ i. h i ⊙ value n (w i) x)
unfolding value
value-sum m n h w x =
    sum_cong n _ _ (λ p l. sum-⊙ (pow x p) m _)
    ∙ sum-swap n m _
    ∙ sum_cong m _ _ (λ i l. sum_cong n _ _ (λ p k. ⊙_assoc _ _ _) ∙ sym (⊙-sum (h i) n _))

-- ---- 1 + a z and 1/(1 + a z)

abbrev pub lin : F → Series
lin a = K 𝟏 ⊞ K a ⊠ Z

abbrev pub geo : F → Series
geo a = pow a

pub lin-geo : (a : F) → lin a ⊠ geo a ≡ K 𝟏
lin-geo a =
    let t : tail (geo a) ≡ K a ⊠ geo a = fun_ext (λ i. rw (tail_at, K-⊠-at) (pow-suc a i)) in
    let h : geo a ≡ K 𝟏 ⊞ Z ⊠ (K a ⊠ geo a) = head_tail (geo a) ∙ rw (t, pow-zero) in
    ⊞_lc h (simp ⊠-ring)

pub below-lin : (a : F) → below 2 (lin a)
below-lin a = below-⊞ 2 _ _ (below_weaken 1 2 _ (below-K 𝟏) (omega arith)) (below-K-⊠ 2 a Z below-Z)

pub below-lin-⊠ : (n k : ℕ) (a : F) (f : Series) → below n f → n < k → below k (lin a ⊠ f)
below-lin-⊠ n k a f p h = below-⊠ 2 n k (lin a) f (below-lin a) p (omega arith)

pub value-lin-⊠ : (n k : ℕ) (a : F) (f : Series) (x : F) → below n f → n < k
    → value k (lin a ⊠ f) x ≡ (𝟏 ⊕ a ⊙ x) ⊙ value k f x
value-lin-⊠ n k a f x p h =
    let e : lin a ⊠ f ≡ f ⊞ K a ⊠ (Z ⊠ f) = simp ⊠-ring in
    ap (λ t. value k t x) e ∙ value-⊞ k _ _ x ∙ rw (value-K-⊠, value_shift n k f x p h) (simp ⊙-ring)

-- a polynomial with the root w = 1/a is a multiple of 1 + a z
pub divide-lin : (m : ℕ) (a w : F) (f : Series)
    → a ⊙ w ≡ 𝟏 → below (suc m) f → value (suc m) f w ≡ 𝟎 → below m (f ⊠ geo a)
divide-lin m a w f e p z i h =
    ⊠-at f (geo a) i
    ∙ sum_cong (suc i) _ (λ j. pow a i ⊙ (f j ⊙ pow w j))
    (λ j l. ap (λ t. f j ⊙ t) (back j (omega arith)) ∙ ⊙-left_comm _ _ _)
    ∙ sym (⊙-sum (pow a i) (suc i) (λ j. f j ⊙ pow w j))
    ∙ rw (← (value-is (suc i) f w), value-more (suc m) (suc i) f w p (omega arith), z) (⊙-zero _)
  where
    back : (j : ℕ) → j ≤ i → pow a (i - j) ≡ pow a i ⊙ pow w j
    back j l =
        let s : i ≡ (i - j) + j = omega arith in
        sym (ap (λ k. pow a k ⊙ pow w j) s ∙ rw (pow-add, ⊙_assoc, ← pow-⊙, e, one-pow) (⊙-one _))

-- ---- the part with odd powers: z times the formal derivative

unfoldable pub parity : ℕ → F
parity zero = 𝟎
parity (suc i) = 𝟏 ⊕ parity i

parity-odd : (i : ℕ) → i % 2 ≡ 1 → parity i ≡ 𝟏
unfolding parity
parity-odd zero h = absurd (omega arith)
parity-odd (suc zero) h = ⊕-zero 𝟏
parity-odd (suc (suc i)) h = ⊕_self-left 𝟏 _ ∙ parity-odd i (omega arith)

parity_even : (i : ℕ) → i % 2 ≢ 1 → parity i ≡ 𝟎
unfolding parity
parity_even zero h = refl
parity_even (suc zero) h = absurd (omega arith)
parity_even (suc (suc i)) h = ⊕_self-left 𝟏 _ ∙ parity_even i (omega arith)

parity-add : (m n : ℕ) → parity (m + n) ≡ parity m ⊕ parity n
unfolding parity
parity-add zero n = simp (zero-add, zero-⊕)
parity-add (suc m) n = simp (suc-add, parity-add m n, ⊕_assoc)

unfoldable pub odd : Series → Series
odd f i = parity i ⊙ f i

pub odd_at : (f : Series) (i : ℕ) → odd f i ≡ parity i ⊙ f i
unfolding odd
odd_at f i = refl

pub odd_yes : (f : Series) (i : ℕ) → i % 2 ≡ 1 → odd f i ≡ f i
odd_yes f i h = rw (odd_at, parity-odd i h) (one-⊙ _)

pub odd_no : (f : Series) (i : ℕ) → i % 2 ≢ 1 → odd f i ≡ 𝟎
odd_no f i h = rw (odd_at, parity_even i h) (zero-⊙ _)

pub below-odd : (n : ℕ) (f : Series) → below n f → below n (odd f)
below-odd n f p i l = rw (odd_at, p i l) (⊙-zero _)

pub odd-K : (a : F) → odd (K a) ≡ O
unfolding parity
odd-K a = fun_ext at_i
  where
    at_i : (i : ℕ) → odd (K a) i ≡ O i
    at_i zero = odd_at (K a) 0 ∙ zero-⊙ _ ∙ sym (O-at 0)
    at_i (suc i) = below-odd 1 (K a) (below-K a) (suc i) (omega arith) ∙ sym (O-at (suc i))

pub odd-Z : odd Z ≡ Z
odd-Z = fun_ext at_i
  where
    at_i : (i : ℕ) → odd Z i ≡ Z i
    at_i zero = odd_no Z 0 (omega arith) ∙ sym Z_at0
    at_i (suc zero) = odd_yes Z 1 (omega arith)
    at_i (suc (suc i)) = below-odd 2 Z below-Z _ (omega arith) ∙ sym (below-Z _ (omega arith))

pub odd-⊞ : (f g : Series) → odd (f ⊞ g) ≡ odd f ⊞ odd g
odd-⊞ f g = fun_ext (λ i. simp (odd_at, ⊞-at, ⊙-⊕))

pub odd-K-⊠ : (a : F) (f : Series) → odd (K a ⊠ f) ≡ K a ⊠ odd f
odd-K-⊠ a f = fun_ext (λ i. simp (odd_at, K-⊠-at, ⊙-ring))

-- a derivation
pub odd-⊠ : (f g : Series) → odd (f ⊠ g) ≡ odd f ⊠ g ⊞ f ⊠ odd g
odd-⊠ f g = fun_ext at_n
  where
    term : (n i : ℕ) → i ≤ n → parity n ⊙ (f i ⊙ g (n - i)) ≡ odd f i ⊙ g (n - i) ⊕ f i ⊙ odd g (n - i)
    term n i l =
        let e : n ≡ i + (n - i) = omega arith in
        ap (λ t. t ⊙ (f i ⊙ g (n - i))) (ap parity e ∙ parity-add i (n - i)) ∙ simp (odd_at, ⊙-ring)

    at_n : (n : ℕ) → odd (f ⊠ g) n ≡ (odd f ⊠ g ⊞ f ⊠ odd g) n
    at_n n =
        rw (odd_at, ⊞-at, ⊠-at f g n, ⊠-at (odd f) g n, ⊠-at f (odd g) n)
        (⊙-sum (parity n) (suc n) _ ∙ sum_cong (suc n) _ _ (λ i l. term n i (omega arith)) ∙ sum-⊕ (suc n) _ _)

pub odd-lin-⊠ : (a : F) (f : Series) → odd (lin a ⊠ f) ≡ lin a ⊠ odd f ⊞ K a ⊠ (Z ⊠ f)
odd-lin-⊠ a f = odd-⊠ (lin a) f ∙ rw (odd-⊞, odd-K, odd-K-⊠, odd-Z) (simp ⊠-ring)
