-- The generator polynomial of k roots, the first one being α^first.
--
--   generator first k (z + root first 0)·(z + root first 1) .. (z + root first (k - 1))
--   rest first k      the same without its top term z^k
--   aligned first k   the same at the top of 48 coefficients: times z^(48 - k)
--
-- Proved: the rest has degree below k and, at each of the k roots, the value of z^k (rest-value).
use Rattle.std.specs.Prelude.{ℕ, zero, suc, ◌-◌, ◌<◌, ◌≡◌}
use Rattle.std.proofs.Common.{sym, ◌∙◌, ap, arith}
use Rattle.std.proofs.Math.Decide.{ℕ_discrete}
use Rattle.field.specs.Field.{F, 𝟎, 𝟏, ◌⊕◌, ◌⊙◌, zero-⊕, ⊕_self, ⊙-zero, zero-⊙, ⊙-one, pow}
use Rattle.series.specs.Series.{Series, O, K, Z, ◌⊞◌, ◌⊠◌, ⊠-ring, ⊠-one, ⊞_self}
use Rattle.series.specs.Shift.{zpow, zpow-zero, zpow-suc}
use Rattle.series.specs.Degree.{below, below_weaken, below-O, below-K, below-Z, below-zpow, below-⊞, below-⊠, below-K-⊠}
use Rattle.series.specs.Value.{value, value-more, value-⊞, value-⊠, value-K, value-Z-⊠, value-zpow}
use Rattle.code.specs.Word.{root}

unfoldable pub generator : ℕ → ℕ → Series
generator first zero = K 𝟏
generator first (suc k) = (Z ⊞ K (root first k)) ⊠ generator first k

unfoldable pub rest : ℕ → ℕ → Series
rest first k = generator first k ⊞ zpow k

unfoldable pub aligned : ℕ → ℕ → Series
aligned first k = zpow (48 - k) ⊠ rest first k

rest-none : (first : ℕ) → rest first 0 ≡ O
unfolding rest generator
rest-none first = rw zpow-zero (⊞_self (K 𝟏))

rest_more : (first k : ℕ)
    → rest first (suc k) ≡ (Z ⊞ K (root first k)) ⊠ rest first k ⊞ K (root first k) ⊠ zpow k
unfolding rest generator
rest_more first k =
    ap (λ (f : Series). (Z ⊞ K (root first k)) ⊠ generator first k ⊞ f) (zpow-suc k)
    ∙ shape (K (root first k)) (generator first k) (zpow k)
  where
    shape : (a g p : Series) → (Z ⊞ a) ⊠ g ⊞ Z ⊠ p ≡ (Z ⊞ a) ⊠ (g ⊞ p) ⊞ a ⊠ p
    shape a g p = simp ⊠-ring

below-factor : (a : F) → below 2 (Z ⊞ K a)
below-factor a = below-⊞ 2 _ _ below-Z (below_weaken 1 2 _ (below-K a) (omega arith))

pub below_rest : (first k : ℕ) → below k (rest first k)
below_rest first zero i h = ap (λ (f : Series). f i) (rest-none first) ∙ below-O 0 i h
below_rest first (suc k) i h =
    ap (λ (f : Series). f i) (rest_more first k)
    ∙ below-⊞ (suc k) _ _ (below-⊠ 2 k (suc k) _ _ (below-factor (root first k)) (below_rest first k) (omega arith))
    (below-K-⊠ (suc k) (root first k) _ (below-zpow k)) i h

-- ---- values at the roots

value-factor : (a x : F) → value 2 (Z ⊞ K a) x ≡ x ⊕ a
value-factor a x = rw (value-⊞, value-K) (ap (λ (s : F). s ⊕ a) one)
  where
    one : value 2 Z x ≡ x
    one = ap (λ (f : Series). value 2 f x) (sym (⊠-one Z)) ∙ value-Z-⊠ 1 (K 𝟏) x ∙ rw value-K (⊙-one x)

below-generator : (first k : ℕ) → below (suc k) (generator first k)
unfolding generator
below-generator first zero = below-K 𝟏
below-generator first (suc k) =
    below-⊠ 2 (suc k) (suc (suc k)) _ _ (below-factor (root first k)) (below-generator first k) (omega arith)

generator-value : (first k j : ℕ) → j < k → value (suc k) (generator first k) (root first j) ≡ 𝟎
unfolding generator
generator-value first zero j h = absurd (omega arith)
generator-value first (suc k) j h =
    value-⊠ 2 (suc k) (suc (suc k)) _ _ x (below-factor (root first k)) (below-generator first k) (omega arith)
    ∙ ap (λ (s : F). s ⊙ value (suc k) (generator first k) x) (value-factor (root first k) x)
    ∙ go (generator-value first k j) (ℕ_discrete j k)
  where
    x : F
    x = root first j

    go : (j < k → value (suc k) (generator first k) x ≡ 𝟎) → Dec (j ≡ k)
        → (x ⊕ root first k) ⊙ value (suc k) (generator first k) x ≡ 𝟎
    go ih (yes e) = ap (λ (s : F). s ⊙ value (suc k) (generator first k) x)
        (ap (λ (i : ℕ). x ⊕ root first i) (sym e) ∙ ⊕_self x) ∙ zero-⊙ _
    go ih (no e) = rw (ih (omega arith)) (⊙-zero _)

pub rest-value : (first k j : ℕ) → j < k → value k (rest first k) (root first j) ≡ pow (root first j) k
unfolding rest
rest-value first k j h =
    sym (value-more k (suc k) (rest first k) (root first j) (below_rest first k) (omega arith))
    ∙ value-⊞ (suc k) (generator first k) (zpow k) (root first j)
    ∙ rw (generator-value first k j h, value-zpow k (suc k) (root first j) (omega arith)) (zero-⊕ _)
