-- The terms of a polynomial's value, from position to position.
--
--   terms x f   the terms of f's value at x: coefficient i times x^i
--
-- Proved: a value is the sum of its terms (value-terms); the terms at W 0 are the coefficients (terms-first), those at
-- W (p + q) come from those at W p (terms-add). Inverse locations multiply as their positions add (W-add), and each is
-- a power of the first (W-power).
use Rattle.std.specs.Prelude.{ℕ, zero, suc, ◌+◌, ◌≤◌, ◌≡◌, refl}
use Rattle.std.proofs.Common.{sym, ap, ap₂, ◌∙◌, add-one}
use Rattle.std.proofs.Math.Path.{fun_ext}
use Rattle.field.specs.Field.{F, 𝟏, α, ◌⊙◌, ⊙-one, zero-⊙, ⊙-ring, pow, pow-zero}
use Rattle.field.proofs.Field.{inv_unique}
use Rattle.field.specs.Field.{pow-suc, pow-add, pow-⊙, one-pow}
use Rattle.series.specs.Sum.{sum}
use Rattle.series.specs.Series.{Series}
use Rattle.series.specs.Degree.{below}
use Rattle.series.specs.Value.{value, value-is, value-more}
use Rattle.settling.specs.Locator.{X, W, X-W}

-- ---- inverse locations

pub W-zero : W 0 ≡ 𝟏
unfolding W
W-zero = inv_unique _ 𝟏 (rw pow-zero (⊙-one 𝟏))

pub W-add : (p q : ℕ) → W (p + q) ≡ W p ⊙ W q
unfolding W
W-add p q = inv_unique _ _ both
  where
    both : X (p + q) ⊙ (W p ⊙ W q) ≡ 𝟏
    both =
        let e : X p ⊙ X q ⊙ (W p ⊙ W q) ≡ X p ⊙ W p ⊙ (X q ⊙ W q) = simp ⊙-ring in
        ap (λ t. t ⊙ (W p ⊙ W q)) (pow-add α p q) ∙ e ∙ ap₂ ◌⊙◌ (X-W p) (X-W q) ∙ ⊙-one 𝟏

pub W-power : (p : ℕ) → W p ≡ pow (W 1) p
W-power zero = W-zero ∙ sym (pow-zero _)
W-power (suc p) = ap W (sym (add-one p)) ∙ W-add p 1 ∙ ap (λ t. t ⊙ W 1) (W-power p) ∙ sym (pow-suc _ p ∙ simp ⊙-ring)

-- ---- terms

unfoldable pub terms : F → Series → Series
terms x f i = f i ⊙ pow x i

pub terms-at : (x : F) (f : Series) (i : ℕ) → terms x f i ≡ f i ⊙ pow x i
unfolding terms
terms-at x f i = refl

pub below-terms : (k : ℕ) (x : F) (f : Series) → below k f → below k (terms x f)
below-terms k x f b i h = rw (terms-at, b i h) (zero-⊙ _)

pub value-terms : (k n : ℕ) (f : Series) (x : F) → below k f → k ≤ n → value k f x ≡ sum n (terms x f)
unfolding terms
value-terms k n f x b h = sym (value-more k n f x b h) ∙ value-is n f x

pub terms-first : (f : Series) → f ≡ terms (W 0) f
terms-first f = fun_ext (λ i. sym (rw (terms-at, W-zero, one-pow) (⊙-one _)))

pub terms-add : (p q : ℕ) (f : Series) → terms (W q) (terms (W p) f) ≡ terms (W (p + q)) f
terms-add p q f = fun_ext (λ i. rw (terms-at, terms-at, terms-at, W-add p q, pow-⊙) (simp ⊙-ring))
