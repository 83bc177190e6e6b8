-- Words of n field values. In theory a word is a series of which the first n values are read; a stored word is a list.
--
--   entry w     the list w as a series: its values, then zeros
--   word n f    the first n values of f as a list
--   weight n f  how many of the first n values of f are not zero: a strip's number of changes
--
-- Proved: a list of n values and the first n values of a series are the same thing (entry-word, word-entry, word_ext,
-- word_cut); a word cut in two weighs what its parts weigh together (weight_split), a sum at most that.
use Rattle.std.specs.Prelude.{ℕ, zero, suc, ◌+◌, ◌≤◌, ◌<◌, ◌≡◌, refl, ◌≢◌, List, [], ◌∷◌, length, get_or}
use Rattle.std.proofs.Common.{sym, ◌∙◌, ap, ap₂, add-zero, add-suc, arith, ext_get_or}
use Rattle.std.proofs.Math.Logic.{ite, if_pos, if_neg}
use Rattle.std.proofs.Math.Decide.{ℕ_discrete}
use Rattle.std.proofs.Math.ListN.{get_or-eq_default}
use Rattle.field.specs.Field.{F, 𝟎, ◌⊕◌, ◌≟◌, ⊕-zero}
use Rattle.series.specs.Series.{Series, O, O-at}
use Rattle.series.specs.Shift.{cut, cut_unique}

-- ---- lists and series

unfoldable pub entry : List F → Series
entry w p = get_or w p 𝟎

unfoldable pub word : ℕ → Series → List F
word zero f = []
word (suc n) f = f 0 ∷ word n (λ i. f (suc i))

pub entry-is : (w : List F) (p : ℕ) → entry w p ≡ get_or w p 𝟎
unfolding entry
entry-is w p = refl

pub entry_past : (w : List F) (p : ℕ) → length w ≤ p → entry w p ≡ 𝟎
unfolding entry
entry_past w p h = get_or-eq_default w 𝟎 h

pub length-word : (n : ℕ) (f : Series) → length (word n f) ≡ n
unfolding word
length-word zero f = refl
length-word (suc n) f = ap suc (length-word n (λ i. f (suc i)))

pub entry-word : (n : ℕ) (f : Series) (i : ℕ) → i < n → entry (word n f) i ≡ f i
unfolding word entry
entry-word zero f i h = absurd (omega arith)
entry-word (suc n) f zero h = refl
entry-word (suc n) f (suc i) h = entry-word n (λ j. f (suc j)) i (omega arith)

pub word_ext : (n : ℕ) (v w : List F) → length v ≡ n → length w ≡ n → ((i : ℕ) → i < n → entry v i ≡ entry w i) → v ≡ w
unfolding entry
word_ext n v w lv lw h = ext_get_or 𝟎 v w (lv ∙ sym lw) (λ i l. h i (omega arith))

pub word-entry : (n : ℕ) (w : List F) → length w ≡ n → word n (entry w) ≡ w
word-entry n w l = word_ext n (word n (entry w)) w (length-word n (entry w)) l (entry-word n (entry w))

pub word_cut : (n : ℕ) (f : Series) → entry (word n f) ≡ cut n f
word_cut n f =
    sym (cut_unique n f _ (λ i l. sym (entry-word n f i l)) (λ i l. entry_past _ i (omega (arith, length-word n f))))

-- ---- weight

unfoldable pub weight : ℕ → Series → ℕ
weight zero f = 0
weight (suc n) f = ite (f n ≟ 𝟎) (weight n f) (suc (weight n f))

pub weight-none : (f : Series) → weight 0 f ≡ 0
unfolding weight
weight-none f = refl

pub weight_skip : (n : ℕ) (f : Series) → f n ≡ 𝟎 → weight (suc n) f ≡ weight n f
unfolding weight
weight_skip n f z = if_pos (f n ≟ 𝟎) z _ _

pub weight-take : (n : ℕ) (f : Series) → f n ≢ 𝟎 → weight (suc n) f ≡ suc (weight n f)
unfolding weight
weight-take n f z = if_neg (f n ≟ 𝟎) z _ _

pub weight_cong : (n : ℕ) (f g : Series) → ((i : ℕ) → i < n → f i ≡ g i) → weight n f ≡ weight n g
unfolding weight
weight_cong zero f g h = refl
weight_cong (suc n) f g h =
    ap₂ (λ x k. ite (x ≟ 𝟎) k (suc k)) (h n (omega arith)) (weight_cong n f g (λ i l. h i (omega arith)))

pub weight-word : (n : ℕ) (f : Series) → weight n (entry (word n f)) ≡ weight n f
weight-word n f = weight_cong n _ f (entry-word n f)

pub weight-O : (n : ℕ) → weight n O ≡ 0
weight-O zero = weight-none O
weight-O (suc n) = weight_skip n O (O-at n) ∙ weight-O n

-- one value more weighs nothing or one
weight-suc : (n : ℕ) (f : Series) → (weight n f ≤ weight (suc n) f) × (weight (suc n) f ≤ suc (weight n f))
weight-suc n f = go (f n ≟ 𝟎)
  where
    go : Dec (f n ≡ 𝟎) → (weight n f ≤ weight (suc n) f) × (weight (suc n) f ≤ suc (weight n f))
    go (yes z) = omega (arith, weight_skip n f z)
    go (no z) = omega (arith, weight-take n f z)

pub weight_le : (n : ℕ) (f : Series) → weight n f ≤ n
weight_le zero f = omega (arith, weight-none f)
weight_le (suc n) f = omega (arith, (weight-suc n f).1, weight_le n f)

pub zero-weight : (n : ℕ) (f : Series) → weight n f ≡ 0 → (p : ℕ) → p < n → f p ≡ 𝟎
zero-weight zero f h p l = absurd (omega arith)
zero-weight (suc n) f h p l = go (zero-weight n f (omega (arith, (weight-suc n f).0)) p) (f n ≟ 𝟎) (ℕ_discrete p n)
  where
    go : (p < n → f p ≡ 𝟎) → Dec (f n ≡ 𝟎) → Dec (p ≡ n) → f p ≡ 𝟎
    go ih (yes z) (yes e) = ap f e ∙ z
    go ih (no z) (yes e) = absurd (omega (arith, weight-take n f z))
    go ih z (no e) = ih (omega arith)

pub weight_split : (m n : ℕ) (f : Series) → weight (m + n) f ≡ weight m f + weight n (λ i. f (m + i))
weight_split m zero f = rw (add-zero, weight-none (λ i. f (m + i))) (sym (add-zero (weight m f)))
weight_split m (suc n) f = rw add-suc (go (weight_split m n f) (f (m + n) ≟ 𝟎))
  where
    g : Series
    g i = f (m + i)

    go : weight (m + n) f ≡ weight m f + weight n g → Dec (f (m + n) ≡ 𝟎)
        → weight (suc (m + n)) f ≡ weight m f + weight (suc n) g
    go ih (yes z) = weight_skip (m + n) f z ∙ ih ∙ ap (λ k. weight m f + k) (sym (weight_skip n g z))
    go ih (no z) = omega (arith, weight-take (m + n) f z, weight-take n g z)

pub weight-⊕ : (n : ℕ) (f g : Series) → weight n (λ p. f p ⊕ g p) ≤ weight n f + weight n g
weight-⊕ zero f g = omega (arith, weight-none (λ p. f p ⊕ g p))
weight-⊕ (suc n) f g = go (weight-⊕ n f g) (f n ≟ 𝟎) (g n ≟ 𝟎)
  where
    h : Series
    h p = f p ⊕ g p

    go : weight n h ≤ weight n f + weight n g → Dec (f n ≡ 𝟎) → Dec (g n ≡ 𝟎)
        → weight (suc n) h ≤ weight (suc n) f + weight (suc n) g
    go ih (yes x) (yes y) =
        omega (arith, weight_skip n f x, weight_skip n g y, weight_skip n h (ap₂ ◌⊕◌ x y ∙ ⊕-zero 𝟎))
    go ih (yes x) (no y) = omega (arith, weight_skip n f x, weight-take n g y, (weight-suc n h).1)
    go ih (no x) y = omega (arith, weight-take n f x, (weight-suc n g).0, (weight-suc n h).1)
