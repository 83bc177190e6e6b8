-- Finite sums of field values.
--
--   sum n f     f 0 + f 1 + .. + f (n - 1)
--
-- Proved: the first or the last term apart, congruence, sums of sums, a factor drawn in, a sum cut in two, two sums
-- exchanged, sums with one term, with zeros at the end, and backwards.
use Rattle.std.specs.Prelude.{ℕ, zero, suc, ◌+◌, ◌-◌, ◌≤◌, ◌<◌, ◌≡◌, refl, ◌≢◌}
use Rattle.std.proofs.Common.{sym, ◌∙◌, ap, ap₂, add-zero, add-suc, arith}
use Rattle.std.proofs.Math.Nat.{sub-zero, suc-sub-suc}
use Rattle.std.proofs.Math.Decide.{ℕ_discrete}
use Rattle.field.specs.Field.{F, 𝟎, ◌⊕◌, ◌⊙◌, zero-⊕, ⊕-zero, ⊕_comm, ⊙-zero, ⊙-⊕, ⊙_comm, ⊕-group}

unfoldable pub sum : ℕ → (ℕ → F) → F
sum zero f = 𝟎
sum (suc n) f = sum n f ⊕ f n

pub sum-none : (f : ℕ → F) → sum 0 f ≡ 𝟎
unfolding sum
sum-none f = refl

pub sum-suc : (n : ℕ) (f : ℕ → F) → sum (suc n) f ≡ sum n f ⊕ f n
unfolding sum
sum-suc n f = refl

pub sum_head : (n : ℕ) (f : ℕ → F) → sum (suc n) f ≡ f 0 ⊕ sum n (λ i. f (suc i))
unfolding sum
sum_head zero f = ⊕_comm 𝟎 (f 0)
sum_head (suc n) f = rw (sum_head n f) (simp ⊕-group)

pub sum_cong : (n : ℕ) (f g : ℕ → F) → ((i : ℕ) → i < n → f i ≡ g i) → sum n f ≡ sum n g
unfolding sum
sum_cong zero f g h = refl
sum_cong (suc n) f g h = ap₂ ◌⊕◌ (sum_cong n f g (λ i l. h i (omega arith))) (h n (omega arith))

pub sum-zero : (n : ℕ) (f : ℕ → F) → ((i : ℕ) → i < n → f i ≡ 𝟎) → sum n f ≡ 𝟎
unfolding sum
sum-zero zero f h = refl
sum-zero (suc n) f h = ap₂ ◌⊕◌ (sum-zero n f (λ i l. h i (omega arith))) (h n (omega arith)) ∙ zero-⊕ 𝟎

pub sum-⊕ : (n : ℕ) (f g : ℕ → F) → sum n (λ i. f i ⊕ g i) ≡ sum n f ⊕ sum n g
unfolding sum
sum-⊕ zero f g = sym (zero-⊕ 𝟎)
sum-⊕ (suc n) f g = rw (sum-⊕ n f g) (simp ⊕-group)

pub ⊙-sum : (c : F) (n : ℕ) (f : ℕ → F) → c ⊙ sum n f ≡ sum n (λ i. c ⊙ f i)
unfolding sum
⊙-sum c zero f = ⊙-zero c
⊙-sum c (suc n) f = rw (⊙-⊕, ⊙-sum c n f)

pub sum-⊙ : (c : F) (n : ℕ) (f : ℕ → F) → sum n f ⊙ c ≡ sum n (λ i. f i ⊙ c)
sum-⊙ c n f = ⊙_comm (sum n f) c ∙ ⊙-sum c n f ∙ sum_cong n _ _ (λ i l. ⊙_comm c (f i))

-- ---- a sum cut in two, two sums exchanged

pub sum_split : (m n : ℕ) (f : ℕ → F) → sum (m + n) f ≡ sum m f ⊕ sum n (λ i. f (m + i))
unfolding sum
sum_split m zero f = rw add-zero (sym (⊕-zero _))
sum_split m (suc n) f = rw (add-suc, sum_split m n f) (simp ⊕-group)

pub sum-swap : (m n : ℕ) (f : ℕ → ℕ → F) → sum m (λ i. sum n (λ j. f i j)) ≡ sum n (λ j. sum m (λ i. f i j))
unfolding sum
sum-swap zero n f = sym (sum-zero n _ (λ j l. refl))
sum-swap (suc m) n f = ap (λ w. w ⊕ sum n (f m)) (sum-swap m n f) ∙ sym (sum-⊕ n _ (f m))

-- ---- sums with zeros

-- all terms but one are zero
pub sum_one : (n k : ℕ) (f : ℕ → F) → k < n → ((i : ℕ) → i < n → i ≢ k → f i ≡ 𝟎) → sum n f ≡ f k
sum_one zero k f l h = absurd (omega arith)
sum_one (suc n) k f l h = sum-suc n f ∙ go (sum_one n k f) (ℕ_discrete n k)
  where
    go : (k < n → ((i : ℕ) → i < n → i ≢ k → f i ≡ 𝟎) → sum n f ≡ f k) → Dec (n ≡ k) → sum n f ⊕ f n ≡ f k
    go ih (yes e) = ap₂ ◌⊕◌ (sum-zero n f (λ i m. h i (omega arith) (omega arith))) (ap f e) ∙ zero-⊕ (f k)
    go ih (no e) = ap₂ ◌⊕◌ (ih (omega arith) (λ i m q. h i (omega arith) q)) (h n (omega arith) e) ∙ ⊕-zero (f k)

-- the terms from m on are zero
pub sum_more : (m n : ℕ) (f : ℕ → F) → m ≤ n → ((i : ℕ) → m ≤ i → i < n → f i ≡ 𝟎) → sum n f ≡ sum m f
sum_more m n f l h =
    let e : n ≡ m + (n - m) = omega arith in
    ap (λ k. sum k f) e
    ∙ sum_split m (n - m) f
    ∙ ap (λ w. sum m f ⊕ w) (sum-zero (n - m) _ (λ i k. h (m + i) (omega arith) (omega arith)))
    ∙ ⊕-zero _

-- ---- backwards

pub sum_rev : (n : ℕ) (f : ℕ → F) → sum (suc n) f ≡ sum (suc n) (λ i. f (n - i))
unfolding sum
sum_rev zero f = rw sub-zero
sum_rev (suc n) f =
    rw (sum_rev n f) (sym (sum_head (suc n) (λ i. f (suc n - i)) ∙ simp (sub-zero, suc-sub-suc, ⊕_comm)))
