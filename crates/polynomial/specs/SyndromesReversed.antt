-- Coefficient r of a product: one factor is read from r down.
--
--   reversed r g   the coefficients of g from r down: g r, g (r - 1), .. g 0, then zeros
--
-- Proved: a loop that writes those of a table from 95 down begins at 48 (reversed-none) and ends at 96 (reversed-all);
-- each coefficient of a product reads a part of them (reversed-part), and the sum of products is the coefficient
-- (below-products, reversed-sum); from 96 on it is zero (product-past).
use Rattle.std.specs.Prelude.{ℕ, suc, ◌+◌, ◌-◌, ◌≤◌, ◌<◌, ◌≡◌, replicate}
use Rattle.std.proofs.Common.{sym, ap, ap₂, ◌∙◌, add-one, arith}
use Rattle.std.proofs.Math.Decide.{dec_le}
use Rattle.field.specs.Field.{F, 𝟎, ◌⊕◌, ◌⊙◌, of, of_zero, zero-⊙, ⊙-zero}
use Rattle.series.specs.Sum.{sum, sum-suc, sum_cong, sum_more}
use Rattle.series.specs.Series.{Series, ◌⊠◌, ⊠-at}
use Rattle.series.specs.Shift.{cut, cut_low, cut_high, cut_unique}
use Rattle.series.specs.Degree.{below, below-⊠, below-cut_eq}
use Rattle.series.specs.Array.{bytes, read-zeros}

unfoldable pub reversed : ℕ → Series → Series
reversed r g = cut (suc r) (λ i. g (r - i))

pub reversed-at : (r : ℕ) (g : Series) (i : ℕ) → i ≤ r → reversed r g i ≡ g (r - i)
unfolding reversed
reversed-at r g i h = cut_low (suc r) _ i (omega arith)

reversed-past : (r : ℕ) (g : Series) (i : ℕ) → r < i → reversed r g i ≡ 𝟎
unfolding reversed
reversed-past r g i h = cut_high (suc r) _ i (omega arith)

-- g has 48 coefficients
pub reversed-none : (g : Series) → below 48 g → bytes (replicate 144 0) ≡ cut 48 (reversed 95 g)
reversed-none g b = read-zeros of 0 of_zero 144 (reversed 95 g)
    ∙ sym (cut_unique 48 (reversed 95 g) (cut 0 (reversed 95 g)) low high)
  where
    high : (j : ℕ) → 48 ≤ j → cut 0 (reversed 95 g) j ≡ 𝟎
    high j l = cut_high 0 (reversed 95 g) j (omega arith)

    low : (j : ℕ) → j < 48 → reversed 95 g j ≡ cut 0 (reversed 95 g) j
    low j l = reversed-at 95 g j (omega arith) ∙ b (95 - j) (omega arith)
        ∙ sym (cut_high 0 (reversed 95 g) j (omega arith))

pub reversed-all : (i : ℕ) (f g : Series) → i ≡ 96 → f ≡ cut i (reversed 95 g) → f ≡ reversed 95 g
reversed-all i f g n e = e ∙ ap (λ (k : ℕ). cut k (reversed 95 g)) n
    ∙ below-cut_eq 96 (reversed 95 g) (λ j l. reversed-past 95 g j (omega arith))

reversed-part : (r : ℕ) (g : Series) (i : ℕ) → r ≤ 95 → reversed 95 g (95 - r + i) ≡ reversed r g i
reversed-part r g i h = go (dec_le i r)
  where
    go : Dec (i ≤ r) → reversed 95 g (95 - r + i) ≡ reversed r g i
    go (yes l) =
        let e : 95 - (95 - r + i) ≡ r - i = omega arith in
        reversed-at 95 g (95 - r + i) (omega arith) ∙ ap g e ∙ sym (reversed-at r g i l)
    go (no l) = reversed-past 95 g (95 - r + i) (omega arith) ∙ sym (reversed-past r g i (omega arith))

pub sum-next : (i : ℕ) (f : ℕ → F) → sum (i + 1) f ≡ sum i f ⊕ f i
sum-next i f = rw add-one (sum-suc i f)

pub below-products : (n : ℕ) (f g : Series) → below n f → below n (λ i. f i ⊙ g i)
below-products n f g b i h = rw (b i h) (zero-⊙ _)

pub reversed-sum : (r i : ℕ) (f g t p : Series)
    → i ≡ 49 → r ≤ 95 → below 49 f → t ≡ reversed 95 g → p ≡ (λ j. f j ⊙ t (95 - r + j)) → sum i p ≡ (f ⊠ g) r
reversed-sum r i f g t p n h b e q =
    ap₂ sum n q
    ∙ sum_cong 49 _ u (λ j l. ap (λ (s : F). f j ⊙ s) (ap (λ (h : Series). h (95 - r + j)) e ∙ reversed-part r g j h))
    ∙ sym (sum_more 49 (49 + suc r) u (omega arith) (λ j l k. rw (b j l) (zero-⊙ _)))
    ∙ sum_more (suc r) (49 + suc r) u (omega arith) (λ j l k. rw (reversed-past r g j (omega arith)) (⊙-zero _))
    ∙ sum_cong (suc r) u _ (λ j l. ap (λ (s : F). f j ⊙ s) (reversed-at r g j (omega arith)))
    ∙ sym (⊠-at f g r)
  where
    u : ℕ → F
    u j = f j ⊙ reversed r g j

pub product-past : (r : ℕ) (f g : Series) → 95 < r → below 49 f → below 48 g → (f ⊠ g) r ≡ 𝟎
product-past r f g h b c = below-⊠ 49 48 96 f g b c (omega arith) r (omega arith)
