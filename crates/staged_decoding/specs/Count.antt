-- Laws of counts, of the numbers that pass a test, and of totals.
--
-- Proved: the count is zero exactly if no number passes (count_none, none-count), falls with the test (count_imp), and
-- is a matter of the numbers below n (count_cong), at most n (count_most), one number after the other (count_next); the
-- numbers that pass rise (nth-rising), are below n (nth_lt), pass (nth-passes) and are all there, each numbered by how
-- many stand before it (nth_rank, rank-nth, rank_lt); a sum over them is a sum over all that pass (nth-sum). A total is
-- that of its terms (total_cong), one after the other (total-none, total-more), and bounded by theirs (total-zero,
-- total_le).
use Rattle.std.specs.Prelude.{ℕ, zero, suc, ◌+◌, ◌*◌, ◌≤◌, ◌<◌, ◌≡◌, refl, Bool, true, false, cond}
use Rattle.std.proofs.Common.{sym, ap, ap₂, ◌∙◌, true≢false, mul-suc, add-one, arith, lt-ltb, le-ltb}
use Rattle.std.proofs.Math.Decide.{dec_lt, ℕ_discrete}
use Rattle.field.specs.Field.{F, 𝟎, ◌⊕◌, ⊕-zero}
use Rattle.series.specs.Sum.{sum, sum-none, sum-suc, sum_cong}
use Rattle.staged_decoding.specs.Definition.{count, nth, total}

-- ---- counts

pub count_yes : (n : ℕ) (b : ℕ → Bool) → b n ≡ true → count (suc n) b ≡ suc (count n b)
unfolding count
count_yes n b e = rw e

pub count_no : (n : ℕ) (b : ℕ → Bool) → b n ≡ false → count (suc n) b ≡ count n b
unfolding count
count_no n b e = rw e

pub count-zero : (b : ℕ → Bool) → count 0 b ≡ 0
unfolding count
count-zero b = refl

pub count_most : (n : ℕ) (b : ℕ → Bool) → count n b ≤ n
count_most zero b = omega (arith, count-zero b)
count_most (suc n) b = go (count_most n b) (b n) refl
  where
    go : count n b ≤ n → (x : Bool) → b n ≡ x → count (suc n) b ≤ suc n
    go ih true e = omega (arith, count_yes n b e)
    go ih false e = omega (arith, count_no n b e)

-- c of the numbers below i pass, and r counts i too
pub count_next : (b : ℕ → Bool) (i c r : ℕ) → r ≡ cond (b i) (suc c) c → c ≡ count i b → r ≡ count (i + 1) b
unfolding count
count_next b i c r e h = e ∙ ap (λ c. cond (b i) (suc c) c) h ∙ ap (λ n. count n b) (sym (add-one i))

pub count_cong : (n : ℕ) (b c : ℕ → Bool) → ((i : ℕ) → i < n → b i ≡ c i) → count n b ≡ count n c
unfolding count
count_cong zero b c h = refl
count_cong (suc n) b c h =
    ap₂ (λ x k. cond x (suc k) k) (h n (omega arith)) (count_cong n b c (λ i l. h i (omega arith)))

pub none-count : (n : ℕ) (b : ℕ → Bool) → ((i : ℕ) → i < n → b i ≡ false) → count n b ≡ 0
none-count zero b h = count-zero b
none-count (suc n) b h = count_no n b (h n (omega arith)) ∙ none-count n b (λ i l. h i (omega arith))

pub count_imp : (n : ℕ) (b c : ℕ → Bool) → ((i : ℕ) → i < n → b i ≡ true → c i ≡ true) → count n b ≤ count n c
count_imp zero b c h = omega (arith, count-zero b)
count_imp (suc n) b c h = go (b n) (c n) refl refl (count_imp n b c (λ i l. h i (omega arith)))
  where
    go : (x y : Bool) → b n ≡ x → c n ≡ y → count n b ≤ count n c → count (suc n) b ≤ count (suc n) c
    go true true e f ih = omega (arith, count_yes n b e, count_yes n c f)
    go true false e f ih = absurd (true≢false (sym (h n (omega arith) e) ∙ f))
    go false true e f ih = omega (arith, count_no n b e, count_yes n c f)
    go false false e f ih = omega (arith, count_no n b e, count_no n c f)

-- a number that passes has fewer before it than there are in all
pub rank_lt : (n : ℕ) (b : ℕ → Bool) (i : ℕ) → i < n → b i ≡ true → count i b < count n b
rank_lt zero b i h t = absurd (omega arith)
rank_lt (suc n) b i h t = go (rank_lt n b i) (ℕ_discrete i n) (b n) refl
  where
    go : (i < n → b i ≡ true → count i b < count n b) → Dec (i ≡ n) → (x : Bool) → b n ≡ x → count i b < count (suc n) b
    go ih (yes e) x f = rw e (omega (arith, count_yes n b (sym (ap b e) ∙ t)))
    go ih (no e) true f = omega (arith, ih (omega arith) t, count_yes n b f)
    go ih (no e) false f = omega (arith, ih (omega arith) t, count_no n b f)

pub count_none : (n : ℕ) (b : ℕ → Bool) → count n b ≡ 0 → (i : ℕ) → i < n → b i ≡ false
count_none n b e i h = go (b i) refl
  where
    go : (x : Bool) → b i ≡ x → b i ≡ false
    go true t = absurd (omega (arith, rank_lt n b i h t))
    go false t = t

-- ---- the numbers that pass

nth_old : (n : ℕ) (b : ℕ → Bool) (w : ℕ) → w < count n b → nth (suc n) b w ≡ nth n b w
unfolding nth
nth_old n b w h = rw (lt-ltb w (count n b) h)

nth_new : (n : ℕ) (b : ℕ → Bool) (w : ℕ) → count n b ≤ w → nth (suc n) b w ≡ n
unfolding nth
nth_new n b w h = rw (le-ltb w (count n b) h)

pub nth_lt : (n : ℕ) (b : ℕ → Bool) (w : ℕ) → w < count n b → nth n b w < n
nth_lt zero b w h = absurd (omega (arith, count-zero b))
nth_lt (suc n) b w h = go (nth_lt n b w) (dec_lt w (count n b))
  where
    go : (w < count n b → nth n b w < n) → Dec (w < count n b) → nth (suc n) b w < suc n
    go ih (yes l) = omega (arith, nth_old n b w l, ih l)
    go ih (no l) = omega (arith, nth_new n b w (omega arith))

-- one number more counts at most once
count-more : (n : ℕ) (b : ℕ → Bool) → count (suc n) b ≤ suc (count n b)
count-more n b = go (b n) refl
  where
    go : (x : Bool) → b n ≡ x → count (suc n) b ≤ suc (count n b)
    go true e = omega (arith, count_yes n b e)
    go false e = omega (arith, count_no n b e)

pub nth-rising : (n : ℕ) (b : ℕ → Bool) (u w : ℕ) → u < w → w < count n b → nth n b u < nth n b w
nth-rising zero b u w l h = absurd (omega (arith, count-zero b))
nth-rising (suc n) b u w l h = go (nth-rising n b u w l) (dec_lt w (count n b))
  where
    small : u < count n b
    small = omega (arith, count-more n b)

    go : (w < count n b → nth n b u < nth n b w) → Dec (w < count n b) → nth (suc n) b u < nth (suc n) b w
    go ih (yes k) = omega (arith, nth_old n b w k, nth_old n b u small, ih k)
    go ih (no k) = omega (arith, nth_new n b w (omega arith), nth_old n b u small, nth_lt n b u small)

pub nth_rank : (n : ℕ) (b : ℕ → Bool) (i : ℕ) → i < n → b i ≡ true → nth n b (count i b) ≡ i
nth_rank zero b i h t = absurd (omega arith)
nth_rank (suc n) b i h t = go (nth_rank n b i) (ℕ_discrete i n)
  where
    go : (i < n → b i ≡ true → nth n b (count i b) ≡ i) → Dec (i ≡ n) → nth (suc n) b (count i b) ≡ i
    go ih (yes e) = rw e (nth_new n b (count n b) (omega arith))
    go ih (no e) = nth_old n b (count i b) (rank_lt n b i (omega arith) t) ∙ ih (omega arith) t

-- w is old, or the last and new
last_new : (n : ℕ) (b : ℕ → Bool) (w : ℕ) → w < count (suc n) b → count n b ≤ w → (b n ≡ true) × (w ≡ count n b)
last_new n b w h l = go (b n) refl
  where
    go : (x : Bool) → b n ≡ x → (b n ≡ true) × (w ≡ count n b)
    go true e = (e, omega (arith, count_yes n b e))
    go false e = absurd (omega (arith, count_no n b e))

pub nth-passes : (n : ℕ) (b : ℕ → Bool) (w : ℕ) → w < count n b → b (nth n b w) ≡ true
nth-passes zero b w h = absurd (omega (arith, count-zero b))
nth-passes (suc n) b w h = go (nth-passes n b w) (dec_lt w (count n b))
  where
    go : (w < count n b → b (nth n b w) ≡ true) → Dec (w < count n b) → b (nth (suc n) b w) ≡ true
    go ih (yes l) = rw (nth_old n b w l) (ih l)
    go ih (no l) = rw (nth_new n b w (omega arith)) (last_new n b w h (omega arith)).0

pub rank-nth : (n : ℕ) (b : ℕ → Bool) (w : ℕ) → w < count n b → count (nth n b w) b ≡ w
rank-nth zero b w h = absurd (omega (arith, count-zero b))
rank-nth (suc n) b w h = go (rank-nth n b w) (dec_lt w (count n b))
  where
    go : (w < count n b → count (nth n b w) b ≡ w) → Dec (w < count n b) → count (nth (suc n) b w) b ≡ w
    go ih (yes l) = rw (nth_old n b w l) (ih l)
    go ih (no l) = rw (nth_new n b w (omega arith)) (sym (last_new n b w h (omega arith)).1)

pub nth-sum : (n : ℕ) (b : ℕ → Bool) (f : ℕ → F)
    → sum (count n b) (λ w. f (nth n b w)) ≡ sum n (λ i. cond (b i) (f i) 𝟎)
nth-sum zero b f = ap (λ k. sum k (λ w. f (nth 0 b w))) (count-zero b) ∙ sum-none _ ∙ sym (sum-none _)
nth-sum (suc n) b f = go (nth-sum n b f) (b n) refl
  where
    old : sum (count n b) (λ w. f (nth (suc n) b w)) ≡ sum (count n b) (λ w. f (nth n b w))
    old = sum_cong (count n b) _ _ (λ w l. ap f (nth_old n b w l))

    go : sum (count n b) (λ w. f (nth n b w)) ≡ sum n (λ i. cond (b i) (f i) 𝟎) → (x : Bool) → b n ≡ x
        → sum (count (suc n) b) (λ w. f (nth (suc n) b w)) ≡ sum (suc n) (λ i. cond (b i) (f i) 𝟎)
    go ih true e =
        ap (λ k. sum k (λ w. f (nth (suc n) b w))) (count_yes n b e)
        ∙ sum-suc (count n b) _
        ∙ ap₂ ◌⊕◌ (old ∙ ih) (ap f (nth_new n b (count n b) (omega arith)) ∙ sym (ap (λ x. cond x (f n) 𝟎) e))
        ∙ sym (sum-suc n _)
    go ih false e =
        ap (λ k. sum k (λ w. f (nth (suc n) b w))) (count_no n b e)
        ∙ old
        ∙ ih
        ∙ sym (sum-suc n _ ∙ ap (λ x. sum n (λ i. cond (b i) (f i) 𝟎) ⊕ cond x (f n) 𝟎) e ∙ ⊕-zero _)

-- ---- totals

pub total_cong : (n : ℕ) (f g : ℕ → ℕ) → ((i : ℕ) → i < n → f i ≡ g i) → total n f ≡ total n g
unfolding total
total_cong zero f g h = refl
total_cong (suc n) f g h = ap₂ ◌+◌ (total_cong n f g (λ i l. h i (omega arith))) (h n (omega arith))

pub total-zero : (n : ℕ) (f : ℕ → ℕ) → ((i : ℕ) → i < n → f i ≡ 0) → total n f ≡ 0
unfolding total
total-zero zero f h = refl
total-zero (suc n) f h = omega (arith, total-zero n f (λ i l. h i (omega arith)), h n (omega arith))

pub total_le : (n k : ℕ) (f : ℕ → ℕ) → ((i : ℕ) → i < n → f i ≤ k) → total n f ≤ k * n
unfolding total
total_le zero k f h = omega arith
total_le (suc n) k f h =
    let low = total_le n k f (λ i l. h i (omega arith)) in
    rw (mul-suc k n) (omega (arith, low, h n (omega arith)))

pub total-none : (f : ℕ → ℕ) → total 0 f ≡ 0
unfolding total
total-none f = refl

pub total-more : (n : ℕ) (f : ℕ → ℕ) → total (n + 1) f ≡ total n f + f n
unfolding total
total-more n f = rw add-one
