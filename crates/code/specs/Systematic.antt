-- Laws of syndromes and of check symbols.
--
-- Proved: roots are distinct, whatever the first one is (roots_distinct); those from one on are those of another first
-- root (root-from, syndrome-from); syndromes depend on the first n symbols and are linear; the systematic word keeps
-- w's symbols from position k on (systematic_data) and has k zero syndromes (systematic-zero); a word is known from its
-- symbols from position k on and k syndromes (systematic_unique); check symbols are known by their values at the roots
-- (check_symbols-is).
use Rattle.std.specs.Prelude.{ℕ, ◌+◌, ◌-◌, ◌≤◌, ◌<◌, ◌≡◌, refl}
use Rattle.std.proofs.Common.{sym, ◌∙◌, ap, ap₂, arith}
use Rattle.std.proofs.Math.Logic.{by_cases}
use Rattle.std.proofs.Math.Decide.{dec_le}
use Rattle.field.specs.Field.{F, 𝟎, α, ◌⊕◌, ◌⊙◌, zero-⊕, ⊕_self, ⊕_cancel}
use Rattle.field.proofs.Field.{⊙_cancel}
use Rattle.field.specs.Field.{pow, pow-add}
use Rattle.field.proofs.Field.{power_inj, power_nonzero}
use Rattle.series.specs.Sum.{sum}
use Rattle.series.specs.Series.{Series, ◌⊞◌, ⊞-at}
use Rattle.series.specs.Shift.{drop, zpow-at, drop_at}
use Rattle.series.specs.Degree.{below}
use Rattle.series.specs.Value.{value, value_cong, value-more, value_split, value-⊞, value-sum}
use Rattle.series.specs.Interpolation.{Distinct, below-interpolate, interpolate-at, interpolate_unique, interpolate-is}
use Rattle.code.specs.Word.{root, syndrome, upper, check_symbols, systematic}

-- α^f cancels
pub roots_distinct : (f k : ℕ) → k < 255 → Distinct k (root f)
unfolding root
roots_distinct f k h i j l q e =
    let z : i ≡ j = power_inj i j (omega arith) (omega arith)
    (⊙_cancel (pow α f) (power_nonzero f) (sym (pow-add α f i) ∙ e ∙ pow-add α f j)) in
    omega arith

-- from root a on
pub root-from : (f a j : ℕ) → root f (a + j) ≡ root (f + a) j
unfolding root
root-from f a j = let e : f + (a + j) ≡ f + a + j = omega arith in ap (pow α) e

-- ---- syndromes

pub syndrome-is : (f n : ℕ) (w : Series) (j : ℕ) → syndrome f n w j ≡ value n w (root f j)
unfolding syndrome
syndrome-is f n w j = refl

pub syndrome-from : (f a n : ℕ) (w : Series) (j : ℕ) → syndrome f n w (a + j) ≡ syndrome (f + a) n w j
unfolding syndrome
syndrome-from f a n w j = ap (value n w) (root-from f a j)

pub syndrome_cong : (f n : ℕ) (v w : Series) → ((i : ℕ) → i < n → v i ≡ w i)
    → (j : ℕ) → syndrome f n v j ≡ syndrome f n w j
unfolding syndrome
syndrome_cong f n v w h j = value_cong n v w (root f j) h

pub syndrome-⊞ : (f n : ℕ) (v w : Series) (j : ℕ) → syndrome f n (v ⊞ w) j ≡ syndrome f n v j ⊕ syndrome f n w j
unfolding syndrome
syndrome-⊞ f n v w j = value-⊞ n v w (root f j)

pub syndrome-sum : (f m n : ℕ) (h : ℕ → F) (w : ℕ → Series) (j : ℕ)
    → syndrome f n (λ q. sum m (λ i. h i ⊙ w i q)) j ≡ sum m (λ i. h i ⊙ syndrome f n (w i) j)
unfolding syndrome
syndrome-sum f m n h w j = value-sum m n h w (root f j)

-- ---- the systematic word

upper-high : (k : ℕ) (w : Series) (i : ℕ) → k ≤ i → upper k w i ≡ w i
unfolding upper
upper-high k w i h = let e : i ≡ k + (i - k) = omega arith in rw e (zpow-at k (drop k w) (i - k) ∙ drop_at k w (i - k))

pub below-check_symbols : (f n k : ℕ) (w : Series) → below k (check_symbols f n k w)
unfolding check_symbols
below-check_symbols f n k w = below-interpolate k (root f) _

systematic-at : (f n k : ℕ) (w : Series) (i : ℕ) → systematic f n k w i ≡ check_symbols f n k w i ⊕ upper k w i
unfolding systematic
systematic-at f n k w i = ⊞-at _ _ i

pub systematic_data : (f n k : ℕ) (w : Series) (i : ℕ) → k ≤ i → systematic f n k w i ≡ w i
systematic_data f n k w i h = systematic-at f n k w i
    ∙ ap₂ ◌⊕◌ (below-check_symbols f n k w i h) (upper-high k w i h) ∙ zero-⊕ (w i)

pub systematic-zero : (f n k : ℕ) (w : Series) → k < 255 → k ≤ n → (j : ℕ) → j < k
    → syndrome f n (systematic f n k w) j ≡ 𝟎
unfolding systematic check_symbols
systematic-zero f n k w small room j h =
    syndrome-⊞ f n _ _ j
    ∙ ap (λ t. t ⊕ syndrome f n (upper k w) j)
    (syndrome-is f n _ j ∙ value-more k n _ (root f j) (below-interpolate k (root f) _) room
    ∙ interpolate-at k (root f) _ (roots_distinct f k small) j h)
    ∙ ⊕_self _

-- two words with the same symbols from position k on and the same k syndromes
pub systematic_unique : (f n k : ℕ) (v w : Series) → k < 255 → k ≤ n → ((i : ℕ) → k ≤ i → i < n → v i ≡ w i)
    → ((j : ℕ) → j < k → syndrome f n v j ≡ syndrome f n w j) → (i : ℕ) → i < n → v i ≡ w i
unfolding syndrome
systematic_unique f n k v w small room same s i h =
    by_cases (dec_le k i) (λ l. same i l h)
    (λ l. interpolate_unique k v w (root f) (roots_distinct f k small) low i (omega arith))
  where
    split : (u : Series) (x : F) → value n u x ≡ value k u x ⊕ pow x k ⊙ value (n - k) (drop k u) x
    split u x = let e : n ≡ k + (n - k) = omega arith in ap (λ m. value m u x) e ∙ value_split k (n - k) u x

    high : (x : F) → value (n - k) (drop k v) x ≡ value (n - k) (drop k w) x
    high x =
        value_cong (n - k) _ _ x (λ i l. drop_at k v i ∙ same (k + i) (omega arith) (omega arith) ∙ sym (drop_at k w i))

    low : (j : ℕ) → j < k → value k v (root f j) ≡ value k w (root f j)
    low j l = ⊕_cancel _ (ap (λ t. value k v (root f j) ⊕ pow (root f j) k ⊙ t) (sym (high (root f j)))
        ∙ sym (split v (root f j)) ∙ s j l ∙ split w (root f j))

-- k symbols with the values of the symbols above
pub check_symbols-is : (f n k : ℕ) (w r : Series) → k < 255 → below k r
    → ((j : ℕ) → j < k → value k r (root f j) ≡ syndrome f n (upper k w) j)
    → r ≡ check_symbols f n k w
unfolding check_symbols
check_symbols-is f n k w r small b h = interpolate-is k r (root f) _ (roots_distinct f k small) b h
