-- Lagrange's polynomials and small systems. The points are the α^j, for the j below m that pass a test b.
--
--   vanishing n b    the polynomial with the roots α^j, for the j below n that pass b
--
-- Proved: its degree and its values (below-vanishing, vanishing-at). Where the right sides of a small system are sums
-- of powers of the α^k times values x k, as those of nested words are, an unknown is the sum of the x k times
-- Lagrange's polynomial (lagrange_solves), for any number of points. A product is made factor by factor (factor_own,
-- factor-other, factor-none, product-none, product-next).
use Rattle.std.specs.Prelude.{ℕ, zero, suc, ◌+◌, ◌*◌, ◌≤◌, ◌<◌, ◌≡◌, refl, ◌≢◌, Bool, true, false, cond}
use Rattle.std.proofs.Math.Path.{sym, ap}
use Rattle.std.proofs.Common.{ap₂, ◌∙◌, true≢false, add-one, arith, eq-eqb, ne_eqb}
use Rattle.std.proofs.Math.Bool.{and-true, and-false}
use Rattle.std.proofs.Math.Decide.{ℕ_discrete}
use Rattle.field.specs.Field.{F, 𝟎, 𝟏, α, ◌⊕◌, ◌⊙◌, zero-⊕, ⊕_self, ⊙-one, one-⊙, ⊙-zero, zero-⊙, ⊙_assoc, ⊙_comm}
use Rattle.field.specs.Field.{⊙-ring, one≢zero, pow, pow_mul, inv}
use Rattle.field.proofs.Field.{⊙_nonzero, power_apart, inv_mul}
use Rattle.series.specs.Sum.{sum, sum_cong, sum-swap, sum_one, ⊙-sum, sum-⊙}
use Rattle.series.specs.Series.{Series, K}
use Rattle.series.specs.Degree.{below, below-K}
use Rattle.series.specs.Value.{value, value-is, value-K}
use Rattle.series.specs.Interpolation.{line, below-line, value_line}
use Rattle.staged_decoding.specs.Definition.{count, nth}
use Rattle.staged_decoding.specs.Count.{count-zero, count_yes, count_no, count_cong, nth_lt}
use Rattle.staged_decoding.specs.Count.{nth-passes, nth_rank, rank-nth, rank_lt}
use Rattle.extend.specs.LagrangeDefinition.{others, product, lagrange}

-- ---- the others

others_self : (b : ℕ → Bool) (i : ℕ) → others b i i ≡ false
others_self b i = rw (eq-eqb i i refl) (and-false (b i))

others-other : (b : ℕ → Bool) (i j : ℕ) → j ≢ i → others b i j ≡ b j
others-other b i j h = rw (ne_eqb j i h) (and-true (b j))

-- the next factor of a product: of i itself, of another one, of one that does not pass

pub factor_own : (b : ℕ → Bool) (i j : ℕ) (x : F) → j ≡ i → 𝟏 ≡ cond (others b i j) x 𝟏
factor_own b i j x e = rw (e, others_self b i)

pub factor-other : (b : ℕ → Bool) (i j : ℕ) (x : F) → j ≢ i → b j ≡ true → x ≡ cond (others b i j) x 𝟏
factor-other b i j x h e = rw (others-other b i j h, e)

pub factor-none : (b : ℕ → Bool) (i j : ℕ) (x : F) → j ≢ i → b j ≡ false → 𝟏 ≡ cond (others b i j) x 𝟏
factor-none b i j x h e = rw (others-other b i j h, e)

-- i is one of those that pass
count-others : (n : ℕ) (b : ℕ → Bool) (i : ℕ) → i < n → b i ≡ true → count n b ≡ suc (count n (others b i))
count-others zero b i h t = absurd (omega arith)
count-others (suc n) b i h t = go (count-others n b i) (ℕ_discrete i n) (b n) refl
  where
    go : (i < n → b i ≡ true → count n b ≡ suc (count n (others b i))) → Dec (i ≡ n) → (x : Bool) → b n ≡ x
        → count (suc n) b ≡ suc (count (suc n) (others b i))
    go ih (yes e) x f =
        count_yes n b (sym (ap b e) ∙ t)
        ∙ ap suc (count_cong n b (others b i) (λ j l. sym (others-other b i j (omega arith)))
        ∙ sym (count_no n (others b i) (ap (others b i) (sym e) ∙ others_self b i)))
    go ih (no e) true f =
        count_yes n b f
        ∙ ap suc (ih (omega arith) t ∙ sym (count_yes n (others b i) (others-other b i n (λ s. e (sym s)) ∙ f)))
    go ih (no e) false f =
        count_no n b f ∙ ih (omega arith) t
        ∙ ap suc (sym (count_no n (others b i) (others-other b i n (λ s. e (sym s)) ∙ f)))

-- ---- products

pub product-none : (b : ℕ → Bool) (k : ℕ) → product 0 b k ≡ 𝟏
unfolding product
product-none b k = refl

product-suc : (n : ℕ) (b : ℕ → Bool) (k : ℕ) → product (suc n) b k ≡ product n b k ⊙ cond (b n) (pow α k ⊕ pow α n) 𝟏
unfolding product
product-suc n b k = refl

-- a loop goes on
pub product-next : (n : ℕ) (b : ℕ → Bool) (k : ℕ) (x u r : F) → x ≡ pow α k → u ≡ product n b k
    → r ≡ u ⊙ cond (b n) (x ⊕ pow α n) 𝟏
    → r ≡ product (n + 1) b k
product-next n b k x u r ex eu er =
    er
    ∙ ap₂ (λ u x. u ⊙ cond (b n) (x ⊕ pow α n) 𝟏) eu ex
    ∙ sym (product-suc n b k)
    ∙ ap (λ n. product n b k) (sym (add-one n))

product_yes : (n : ℕ) (b : ℕ → Bool) (k : ℕ) → b n ≡ true → product (suc n) b k ≡ product n b k ⊙ (pow α k ⊕ pow α n)
product_yes n b k e = product-suc n b k ∙ rw e

product_no : (n : ℕ) (b : ℕ → Bool) (k : ℕ) → b n ≡ false → product (suc n) b k ≡ product n b k
product_no n b k e = product-suc n b k ∙ rw e (⊙-one _)

product_cong : (n : ℕ) (b c : ℕ → Bool) (k : ℕ) → ((j : ℕ) → j < n → b j ≡ c j) → product n b k ≡ product n c k
product_cong zero b c k h = product-none b k ∙ sym (product-none c k)
product_cong (suc n) b c k h =
    product-suc n b k
    ∙ ap₂ (λ u x. u ⊙ cond x (pow α k ⊕ pow α n) 𝟏)
    (product_cong n b c k (λ j l. h j (omega arith))) (h n (omega arith))
    ∙ sym (product-suc n c k)

-- a root
product-zero : (n : ℕ) (b : ℕ → Bool) (k : ℕ) → k < n → b k ≡ true → product n b k ≡ 𝟎
product-zero zero b k h t = absurd (omega arith)
product-zero (suc n) b k h t = product-suc n b k ∙ go (product-zero n b k) (ℕ_discrete k n)
  where
    go : (k < n → b k ≡ true → product n b k ≡ 𝟎) → Dec (k ≡ n) → product n b k ⊙ cond (b n) (pow α k ⊕ pow α n) 𝟏 ≡ 𝟎
    go ih (yes e) = rw (sym (ap b e) ∙ t, e, ⊕_self) (⊙-zero _)
    go ih (no e) = rw (ih (omega arith) t) (zero-⊙ _)

-- no root
product_nonzero : (n : ℕ) (b : ℕ → Bool) (k : ℕ) → n ≤ 255 → k < 255 → b k ≡ false → product n b k ≢ 𝟎
product_nonzero zero b k small l f = λ e. one≢zero (sym (product-none b k) ∙ e)
product_nonzero (suc n) b k small l f = go (product_nonzero n b k (omega arith) l f) (b n) refl
  where
    go : product n b k ≢ 𝟎 → (x : Bool) → b n ≡ x → product (suc n) b k ≢ 𝟎
    go ih true t = rw (product_yes n b k t)
        (⊙_nonzero _ _ ih (power_apart k n l (omega arith) (λ e. true≢false (sym t ∙ ap b (sym e) ∙ f))))
    go ih false t = rw (product_no n b k t) ih

-- ---- the polynomial

unfoldable vanishing : ℕ → (ℕ → Bool) → Series
vanishing zero b = K 𝟏
vanishing (suc n) b = cond (b n) (line (pow α n) 𝟎 (vanishing n b)) (vanishing n b)

vanishing_yes : (n : ℕ) (b : ℕ → Bool) → b n ≡ true → vanishing (suc n) b ≡ line (pow α n) 𝟎 (vanishing n b)
unfolding vanishing
vanishing_yes n b e = rw e

vanishing_no : (n : ℕ) (b : ℕ → Bool) → b n ≡ false → vanishing (suc n) b ≡ vanishing n b
unfolding vanishing
vanishing_no n b e = rw e

below-vanishing : (n : ℕ) (b : ℕ → Bool) → below (suc (count n b)) (vanishing n b)
unfolding vanishing
below-vanishing zero b = rw (count-zero b) (below-K 𝟏)
below-vanishing (suc n) b = go (below-vanishing n b) (b n) refl
  where
    go : below (suc (count n b)) (vanishing n b) → (x : Bool) → b n ≡ x
        → below (suc (count (suc n) b)) (vanishing (suc n) b)
    go ih true e = rw (vanishing_yes n b e, count_yes n b e) (below-line (suc (count n b)) _ _ _ ih)
    go ih false e = rw (vanishing_no n b e, count_no n b e) ih

vanishing-at : (n : ℕ) (b : ℕ → Bool) (k : ℕ) → value (suc (count n b)) (vanishing n b) (pow α k) ≡ product n b k
unfolding vanishing
vanishing-at zero b k = value-K (count 0 b) 𝟏 (pow α k) ∙ sym (product-none b k)
vanishing-at (suc n) b k = go (vanishing-at n b k) (b n) refl
  where
    go : value (suc (count n b)) (vanishing n b) (pow α k) ≡ product n b k → (x : Bool) → b n ≡ x
        → value (suc (count (suc n) b)) (vanishing (suc n) b) (pow α k) ≡ product (suc n) b k
    go ih true e =
        ap₂ (λ c (f : Series). value (suc c) f (pow α k)) (count_yes n b e) (vanishing_yes n b e)
        ∙ value_line (suc (count n b)) (pow α n) 𝟎 (vanishing n b) (pow α k) (below-vanishing n b)
        ∙ zero-⊕ _
        ∙ ⊙_comm _ _
        ∙ ap (λ t. t ⊙ (pow α k ⊕ pow α n)) ih
        ∙ sym (product_yes n b k e)
    go ih false e =
        ap₂ (λ c (f : Series). value (suc c) f (pow α k)) (count_no n b e) (vanishing_no n b e) ∙ ih
        ∙ sym (product_no n b k e)

-- ---- systems

-- the right sides of a system, weighed with the coefficients of a polynomial: its values weigh the unknowns
weighed : (n m : ℕ) (f : Series) (e : ℕ → ℕ) (S : ℕ → F)
    → sum n (λ l. f l ⊙ sum m (λ w. pow α (e w * l) ⊙ S w)) ≡ sum m (λ w. value n f (pow α (e w)) ⊙ S w)
weighed n m f e S =
    sum_cong n _ _ (λ l h. ⊙-sum (f l) m _)
    ∙ sum-swap n m _
    ∙ sum_cong m _ _ (λ w h.
    sum_cong n _ (λ l. f l ⊙ pow (pow α (e w)) l ⊙ S w) (λ l q. rw pow_mul (simp ⊙-ring))
    ∙ sym (sum-⊙ (S w) n _)
    ∙ ap (λ t. t ⊙ S w) (sym (value-is n f _)))

module _ (m : ℕ) (b : ℕ → Bool) (small : m ≤ 255) (i : ℕ) (h : i < m) (t : b i ≡ true) where
  -- Lagrange's polynomial but for a factor: its coefficients, and its value at α^k
  coefficients : Series
  coefficients = vanishing m (others b i)

  rest : ℕ → F
  rest = product m (others b i)

  at : (k : ℕ) → value (count m b) coefficients (pow α k) ≡ rest k
  unfolding coefficients rest
  at k = rw (count-others m b i h t) (vanishing-at m (others b i) k)

  rest_nonzero : rest i ≢ 𝟎
  unfolding rest
  rest_nonzero = product_nonzero m (others b i) i small (omega arith) (others_self b i)

  -- another point
  rest-zero : (w : ℕ) → w < count m b → w ≢ count i b → rest (nth m b w) ≡ 𝟎
  unfolding rest
  rest-zero w l d =
      product-zero m (others b i) (nth m b w) (nth_lt m b w l)
      (others-other b i (nth m b w) (λ e. d (sym (rank-nth m b w l) ∙ ap (λ k. count k b) e)) ∙ nth-passes m b w l)

  module _ (x S : ℕ → F)
      (solves : (l : ℕ) → l < count m b
      → sum (count m b) (λ w. pow α (nth m b w * l) ⊙ S w) ≡ sum m (λ k. pow α (k * l) ⊙ x k)) where
    -- all unknowns but one are weighed with zero
    one_left : sum (count m b) (λ w. rest (nth m b w) ⊙ S w) ≡ rest i ⊙ S (count i b)
    one_left =
        sum_one (count m b) (count i b) _ (rank_lt m b i h t) (λ w l d. rw (rest-zero w l d) (zero-⊙ _))
        ∙ ap (λ k. rest k ⊙ S (count i b)) (nth_rank m b i h t)

    scaled : rest i ⊙ S (count i b) ≡ sum m (λ k. rest k ⊙ x k)
    scaled =
        sym one_left
        ∙ sum_cong (count m b) _ _ (λ w l. ap (λ u. u ⊙ S w) (sym (at (nth m b w))))
        ∙ sym (weighed (count m b) (count m b) coefficients (nth m b) S)
        ∙ sum_cong (count m b) _ _ (λ l q. ap (λ u. coefficients l ⊙ u) (solves l q))
        ∙ weighed (count m b) m coefficients (λ k. k) x
        ∙ sum_cong m _ _ (λ k q. ap (λ u. u ⊙ x k) (at k))

    pub lagrange_solves : S (count i b) ≡ sum m (λ k. lagrange m b i k ⊙ x k)
    unfolding lagrange rest
    lagrange_solves =
        let out : S (count i b) ≡ inv (rest i) ⊙ (rest i ⊙ S (count i b)) =
        sym (one-⊙ _) ∙ ap (λ u. u ⊙ S (count i b)) (sym (inv_mul (rest i) rest_nonzero)) ∙ ⊙_assoc _ _ _ in
        out
        ∙ ap (λ u. inv (rest i) ⊙ u) scaled
        ∙ ⊙-sum (inv (rest i)) m _
        ∙ sum_cong m _ _ (λ k l. simp ⊙-ring)

-- ---- a matter of the numbers below m

pub lagrange_cong : (m : ℕ) (b c : ℕ → Bool) (i k : ℕ) → ((j : ℕ) → j < m → b j ≡ c j)
    → lagrange m b i k ≡ lagrange m c i k
unfolding lagrange
lagrange_cong m b c i k h =
    ap₂ (λ u v. u ⊙ inv v) (product_cong m _ _ k same) (product_cong m _ _ i same)
  where
    same : (j : ℕ) → j < m → others b i j ≡ others c i j
    same j l = rw (h j l)
