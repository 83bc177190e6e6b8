-- A polynomial f times S, its powers below k, at w = 1/x: one coefficient of a product, with S divided by 1 + xz.
--
--   quotient x S   S·x/(1 + xz)
--
-- Proved: each coefficient of the quotient from the one before (quotient-next); w^k times coefficient k − 1 of
-- f·(quotient x S) is the value (quotient-value), so with what an array holds of the quotient (omega-is).
use Rattle.std.specs.Prelude.{ℕ, zero, suc, ◌+◌, ◌-◌, ◌≤◌, ◌<◌, ◌≡◌}
use Rattle.std.proofs.Common.{sym, ap, ap₂, ◌∙◌, arith}
use Rattle.field.specs.Field.{F, 𝟏, α, ◌⊕◌, ◌⊙◌, ⊙-one, one-⊙, ⊙-ring, pow, pow-add, pow-suc, pow-⊙, one-pow}
use Rattle.series.specs.Sum.{sum_cong, ⊙-sum}
use Rattle.series.specs.Series.{Series, K, Z, ◌⊞◌, ◌⊠◌, ⊠-ring, ⊞_lc, ⊞-at, ⊠-at, K-⊠-at, ⊠-agree}
use Rattle.series.specs.Shift.{cut, cut_low}
use Rattle.series.specs.Value.{value, value-is, geo, lin-geo}
use Rattle.settling.specs.Locator.{W, X-W}

unfoldable pub quotient : F → Series → Series
quotient x S = K x ⊠ (S ⊠ geo x)

pub quotient-next : (x : F) (S : Series) (i : ℕ) → quotient x S i ≡ x ⊙ ((Z ⊠ quotient x S) i ⊕ S i)
unfolding quotient
quotient-next x S i =
    let e : K x ⊠ (S ⊠ geo x) ≡ K x ⊠ (Z ⊠ (K x ⊠ (S ⊠ geo x)) ⊞ S) =
    ⊞_lc (λ j. K x ⊠ S ⊠ lin-geo x j) (simp ⊠-ring) in
    ap (λ f. f i) e ∙ K-⊠-at x _ i ∙ ap (λ t. x ⊙ t) (⊞-at _ S i)

-- coefficient k of f/(1 + xz) has the terms of the value, each over w^k
value-geo : (k : ℕ) (f : Series) (x w : F) → x ⊙ w ≡ 𝟏 → pow w k ⊙ (f ⊠ geo x) k ≡ value (suc k) f w
value-geo k f x w e =
    ap (λ t. pow w k ⊙ t) (⊠-at f (geo x) k)
    ∙ ⊙-sum (pow w k) (suc k) _
    ∙ sum_cong (suc k) _ _ (λ i l. term i (omega arith))
    ∙ sym (value-is (suc k) f w)
  where
    term : (i : ℕ) → i ≤ k → pow w k ⊙ (f i ⊙ pow x (k - i)) ≡ f i ⊙ pow w i
    term i h =
        let whole : i + (k - i) ≡ k = omega arith in
        let s : (a b y x : F) → a ⊙ b ⊙ (y ⊙ x) ≡ y ⊙ a ⊙ (x ⊙ b) = λ a b y x. simp ⊙-ring in
        ap (λ t. t ⊙ (f i ⊙ pow x (k - i))) (ap (pow w) (sym whole) ∙ pow-add w i (k - i))
        ∙ s (pow w i) (pow w (k - i)) (f i) (pow x (k - i))
        ∙ ap (λ t. f i ⊙ pow w i ⊙ t)
        (sym (pow-⊙ x w (k - i)) ∙ ap (λ t. pow t (k - i)) e ∙ one-pow (k - i))
        ∙ ⊙-one _

pub quotient-value : (k : ℕ) (f S : Series) (x w : F) → x ⊙ w ≡ 𝟏
    → pow w (suc k) ⊙ (f ⊠ quotient x S) k ≡ value (suc k) (f ⊠ S) w
unfolding quotient
quotient-value k f S x w e =
    let a : f ⊠ (K x ⊠ (S ⊠ geo x)) ≡ K x ⊠ (f ⊠ S ⊠ geo x) = simp ⊠-ring in
    let s : (w p x q : F) → w ⊙ p ⊙ (x ⊙ q) ≡ x ⊙ w ⊙ (p ⊙ q) = λ w p x q. simp ⊙-ring in
    ap₂ ◌⊙◌ (pow-suc w k) (ap (λ h. h k) a ∙ K-⊠-at x _ k)
    ∙ s w (pow w k) x _
    ∙ ap₂ ◌⊙◌ e (value-geo k (f ⊠ S) x w e)
    ∙ one-⊙ _

-- h is an array with the first 48 coefficients of the quotient
pub omega-is : (k p : ℕ) (f S h : Series) (x : F) → 0 < k → k ≤ 48 → x ≡ pow α p → h ≡ cut 48 (quotient x S)
    → pow (W p) k ⊙ (f ⊠ h) (k - 1) ≡ value k (f ⊠ S) (W p)
omega-is zero p f S h x some few x-is is = absurd (omega arith)
omega-is (suc j) p f S h x some few x-is is =
    let e : suc j - 1 ≡ j = omega arith in
    ap (λ i. pow (W p) (suc j) ⊙ (f ⊠ h) i) e
    ∙ ap (λ t. pow (W p) (suc j) ⊙ t)
    (⊠-agree f h (quotient x S) j
    (λ i l. ap (λ g. g i) is ∙ cut_low 48 (quotient x S) i (omega arith)))
    ∙ quotient-value j f S x (W p) (ap (λ t. t ⊙ W p) x-is ∙ X-W p)
