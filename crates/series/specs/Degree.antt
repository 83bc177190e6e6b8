-- Polynomials: series of degree below n.
--
--   below n f   the coefficients of f are zero from n on
--
-- Proved: bounds for constants, sums, products, shifts and parts; what is below 0 is zero, what is below 1 is a
-- constant, and what is below n is its own cut.
use Rattle.std.specs.Prelude.{ℕ, zero, suc, ◌+◌, ◌-◌, ◌≤◌, ◌<◌, ◌≡◌, refl}
use Rattle.std.proofs.Common.{sym, ◌∙◌, arith}
use Rattle.std.proofs.Math.Path.{fun_ext}
use Rattle.std.proofs.Math.Decide.{dec_le}
use Rattle.field.specs.Field.{F, 𝟎, 𝟏, ◌⊙◌, zero-⊕, ⊙-zero, zero-⊙}
use Rattle.series.specs.Sum.{sum-zero}
use Rattle.series.specs.Series.{Series, O, K, Z, ◌⊞◌, ◌⊠◌, tail, O-at, K_at0, K-suc, ⊞-at, ⊠-at}
use Rattle.series.specs.Series.{tail_at, K-⊠-at, Z-⊠-at, ⊠-one}
use Rattle.series.specs.Shift.{zpow, drop, cut, zpow-at, zpow-other, drop_at, cut_high, cut_unique}

abbrev pub below : ℕ → Series → Type 0
below n f = (i : ℕ) → n ≤ i → f i ≡ 𝟎

pub below_weaken : (m n : ℕ) (f : Series) → below m f → m ≤ n → below n f
below_weaken m n f p h i l = p i (omega arith)

pub below-O : (n : ℕ) → below n O
below-O n i l = O-at i

pub below-K : (a : F) → below 1 (K a)
below-K a zero l = absurd (omega arith)
below-K a (suc i) l = K-suc a i

pub below-zpow : (n : ℕ) → below (suc n) (zpow n)
below-zpow n i l = zpow-other n i (omega arith)

-- ---- sums and products

pub below-⊞ : (n : ℕ) (f g : Series) → below n f → below n g → below n (f ⊞ g)
below-⊞ n f g p q i l = simp (⊞-at, p i l, q i l, zero-⊕)

-- the product of m and n coefficients has m + n - 1
pub below-⊠ : (m n k : ℕ) (f g : Series) → below m f → below n g → m + n ≤ suc k → below k (f ⊠ g)
below-⊠ m n k f g p q h i l = ⊠-at f g i ∙ sum-zero (suc i) _ (λ j t. term j (dec_le m j) t)
  where
    term : (j : ℕ) → Dec (m ≤ j) → j < suc i → f j ⊙ g (i - j) ≡ 𝟎
    term j (yes d) t = rw (p j d) (zero-⊙ _)
    term j (no d) t = rw (q (i - j) (omega arith)) (⊙-zero _)

pub below-K-⊠ : (n : ℕ) (a : F) (f : Series) → below n f → below n (K a ⊠ f)
below-K-⊠ n a f p i l = simp (K-⊠-at, p i l, ⊙-zero)

pub below-Z-⊠ : (n : ℕ) (f : Series) → below n f → below (suc n) (Z ⊠ f)
below-Z-⊠ n f p zero l = absurd (omega arith)
below-Z-⊠ n f p (suc i) l = Z-⊠-at f i ∙ p i (omega arith)

pub below-Z : below 2 Z
below-Z = rw ⊠-one at (below-Z-⊠ 1 (K 𝟏) (below-K 𝟏))

-- ---- parts

pub below-tail : (n : ℕ) (f : Series) → below (suc n) f → below n (tail f)
below-tail n f p i l = tail_at f i ∙ p (suc i) (omega arith)

pub below-tail_weak : (n : ℕ) (f : Series) → below n f → below n (tail f)
below-tail_weak n f p i l = tail_at f i ∙ p (suc i) (omega arith)

pub below-drop : (n r : ℕ) (f : Series) → below n f → below (n - r) (drop r f)
below-drop n r f p i l = drop_at r f i ∙ p (r + i) (omega arith)

pub below_divide : (n r : ℕ) (f : Series) → below n (zpow r ⊠ f) → below (n - r) f
below_divide n r f p i l = sym (zpow-at r f i) ∙ p (r + i) (omega arith)

pub below-cut : (n : ℕ) (f : Series) → below n (cut n f)
below-cut n f = cut_high n f

-- ---- few coefficients

pub below-cut_eq : (n : ℕ) (f : Series) → below n f → cut n f ≡ f
below-cut_eq n f p = cut_unique n f f (λ i l. refl) p

pub below_none : (f : Series) → below 0 f → f ≡ O
below_none f p = fun_ext (λ i. p i (omega arith) ∙ sym (O-at i))

pub below_one : (f : Series) → below 1 f → f ≡ K (f 0)
below_one f p = fun_ext at_i
  where
    at_i : (i : ℕ) → f i ≡ K (f 0) i
    at_i zero = sym (K_at0 (f 0))
    at_i (suc i) = p (suc i) (omega arith) ∙ sym (K-suc (f 0) i)
