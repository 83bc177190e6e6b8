-- The value of an error from the polynomials that a solver has after r iterations, in two ways: FORMAT 8.19, where it
-- is the change at place p. The first root is α^f, w is W p, and c coefficients of each polynomial are read.
--
--   Ω_at r Λ S p          Ω(w): Ω is Λ·S, of which the powers below r are read
--   odd_at c Λ p          Λ_odd(w): the divisor of the first way
--   divisor c Λ B p       B(w)·Λ_odd(w): the divisor of the second way
--   by_evaluator c f r Λ S p     w·Ω(w)/Λ_odd(w), times X_p^(1−f): Forney's formula
--   by_auxiliary c f r g Λ B p   g·Λ_0·w^r/(B(w)·Λ_odd(w)), times X_p^(1−f)
--   Gives c f r g Λ B S p y      both ways give y, and neither divisor is zero
--
-- Proved, whatever the polynomials are: where its divisor is zero, a way gives zero (by_evaluator-none,
-- by_auxiliary-none). Where a pattern has the first r syndromes of S and at most r/2 changes, Λ and B are multiples of
-- the measure's after r iterations, and g is γ times the factor of B: both ways give its change at each changed
-- position (values). No case is made for swap and hold: at a root w of Λ the determinant of the iteration is
-- w·B(w)·P(w), and it is γ·Λ_0·w^r, of which no factor is zero.
use Prim.Native.Nat.{ℕ, suc, ◌+◌, ◌*◌, ◌≤◌, ◌<◌}
use Rattle.std.specs.Prelude.{◌≡◌, ◌≢◌}
use Rattle.std.proofs.Math.Path.{sym, ap, ap₂}
use Rattle.std.proofs.Common.{◌∙◌, arith}
use Rattle.field.specs.Field.{F, 𝟎, ◌⊕◌, ◌⊙◌, ⊙_assoc, ⊙-left_comm, ⊙-one, one-⊙, ⊙-zero, zero-⊙, zero-⊕}
use Rattle.field.specs.Field.{⊙-ring, inv, pow}
use Rattle.field.proofs.Field.{⊙_nonzero, inv-zero, mul-inv, pow_nonzero}
use Rattle.series.specs.Series.{Series, K, Z, ◌⊞◌, ◌⊠◌, K-⊠-at, ⊠_assoc}
use Rattle.series.specs.Degree.{below_weaken}
use Rattle.series.specs.Value.{value, value_cong, value-more, value-⊞, value-⊠, value-K-⊠, value-Z-⊠, value-zpow}
use Rattle.series.specs.Value.{odd, odd-K-⊠}
use Rattle.series.specs.Word.{weight}
use Rattle.code.specs.Word.{syndrome}
use Rattle.key_equation.specs.Plain as Plain
use Rattle.key_equation.specs.Run.{measure}
use Rattle.key_equation.specs.Shortest.{Invariant, invariant, c, det, key-low}
use Rattle.settling.specs.Locator.{X, W, X-W, W_nonzero, lead_is, locator, locator-root, forney}
use Rattle.settling.specs.Twist.{inverse_multiplier, twist, untwist-at, untwist-twist, twist-zero}
use Rattle.settling.specs.Twist.{weight-twist, syndrome-twist}
use Rattle.settling.specs.Solve.{Found, found}

-- ---- the two ways

abbrev pub Ω_at : ℕ → Series → Series → ℕ → F
Ω_at r Λ S p = value r (Λ ⊠ S) (W p)

abbrev pub odd_at : ℕ → Series → ℕ → F
odd_at c Λ p = value c (odd Λ) (W p)

abbrev pub divisor : ℕ → Series → Series → ℕ → F
divisor c Λ B p = value c B (W p) ⊙ odd_at c Λ p

unfoldable pub by_evaluator : (c f r : ℕ) (Λ S : Series) → ℕ → F
by_evaluator c f r Λ S p = inverse_multiplier f p ⊙ (W p ⊙ Ω_at r Λ S p ⊙ inv (odd_at c Λ p))

unfoldable pub by_auxiliary : (c f r : ℕ) (g : F) (Λ B : Series) → ℕ → F
by_auxiliary c f r g Λ B p = inverse_multiplier f p ⊙ (g ⊙ Λ 0 ⊙ pow (W p) r ⊙ inv (divisor c Λ B p))

pub record Gives (c f r : ℕ) (g : F) (Λ B S : Series) (p : ℕ) (y : F) : Type 0 where
  pub odd≢0 : odd_at c Λ p ≢ 𝟎
  pub divisor≢0 : divisor c Λ B p ≢ 𝟎
  pub evaluator : by_evaluator c f r Λ S p ≡ y
  pub auxiliary : by_auxiliary c f r g Λ B p ≡ y

-- ---- a divisor that is zero

over_zero : (x y d : F) → d ≡ 𝟎 → x ⊙ (y ⊙ inv d) ≡ 𝟎
over_zero x y d z = rw (z, inv-zero, ⊙-zero, ⊙-zero)

pub by_evaluator-none : (c f r : ℕ) (Λ S : Series) (p : ℕ) → odd_at c Λ p ≡ 𝟎 → by_evaluator c f r Λ S p ≡ 𝟎
unfolding by_evaluator
by_evaluator-none c f r Λ S p = over_zero _ _ _

pub by_auxiliary-none : (c f r : ℕ) (g : F) (Λ B : Series) (p : ℕ) → divisor c Λ B p ≡ 𝟎
    → by_auxiliary c f r g Λ B p ≡ 𝟎
unfolding by_auxiliary
by_auxiliary-none c f r g Λ B p = over_zero _ _ _

-- ---- the measure after r iterations over S, where e is found, at a changed position p

module _ (n r k : ℕ) (S e : Series) (hn : n ≤ 255) (is : Found S r n e) (p : ℕ) (hp : p < n) (changed : e p ≢ 𝟎)
    (enough : r < k) where
  abbrev m : Plain.State
  m = measure S r

  abbrev v : Invariant S r m
  v = invariant S r

  few : weight n e < k
  few = omega (arith, is.length_is, v.short, enough)

  root : value k m.Λ (W p) ≡ 𝟎
  root =
      ap (λ f. value k f (W p)) is.locator_is
      ∙ value-K-⊠ k _ _ (W p)
      ∙ rw (locator-root e p k (omega arith) n hp changed few) (⊙-zero _)

  odd_is : odd_at k m.Λ p ≡ m.Λ 0 ⊙ odd_at k (locator n e) p
  odd_is =
      ap (λ f. value k (odd f) (W p)) is.locator_is
      ∙ ap (λ f. value k f (W p)) (odd-K-⊠ _ _)
      ∙ value-K-⊠ k _ _ (W p)

  -- Forney's formula
  P-is : value k v.P (W p) ≡ e p ⊙ X p ⊙ odd_at k m.Λ p
  P-is =
      ap (λ f. value k f (W p)) is.evaluator_is
      ∙ value-K-⊠ k _ _ (W p)
      ∙ ap (λ t. m.Λ 0 ⊙ t)
      ((forney e p k (omega arith) n hn hp changed few).1
      ∙ ap (λ t. e p ⊙ t ⊙ odd_at k (locator n e) p) (lead_is p))
      ∙ ⊙-left_comm _ _ _
      ∙ ap (λ t. e p ⊙ X p ⊙ t) (sym odd_is)

  -- the determinant at a root of Λ
  det-at : W p ⊙ value k m.B (W p) ⊙ value k v.P (W p) ≡ m.γ ⊙ m.Λ 0 ⊙ pow (W p) r
  unfolding c
  det-at =
      sym (value-⊞ w _ _ (W p) ∙ ap₂ ◌⊕◌ none some ∙ zero-⊕ _)
      ∙ ap (λ f. value w f (W p)) (det S r)
      ∙ value-K-⊠ w _ _ (W p)
      ∙ ap (λ t. m.γ ⊙ m.Λ 0 ⊙ t) (value-zpow r w (W p) (omega arith))
    where
      w : ℕ
      w = suc k + k

      none : value w (m.Λ ⊠ v.Q) (W p) ≡ 𝟎
      none =
          value-⊠ k k w _ _ (W p)
          (below_weaken _ _ _ v.below_Λ (omega (arith, v.short, enough)))
          (below_weaken _ _ _ v.below_Q (omega (arith, enough))) (omega arith)
          ∙ rw root (zero-⊙ _)

      some : value w (Z ⊠ m.B ⊠ v.P) (W p) ≡ W p ⊙ value k m.B (W p) ⊙ value k v.P (W p)
      some =
          value-⊠ (suc k) k w _ _ (W p)
          (below_weaken _ _ _ v.below_B (omega (arith, enough)))
          (below_weaken _ _ _ v.below_P (omega (arith, v.short, enough))) (omega arith)
          ∙ ap (λ t. t ⊙ value k v.P (W p)) (value-Z-⊠ k _ (W p))

  whole : e p ⊙ divisor k m.Λ m.B p ≡ m.γ ⊙ m.Λ 0 ⊙ pow (W p) r
  whole =
      sym (ap (λ t. W p ⊙ value k m.B (W p) ⊙ t) P-is
      ∙ sorted (W p) (value k m.B (W p)) (e p) (X p) (odd_at k m.Λ p) ∙ rw X-W (one-⊙ _))
      ∙ det-at
    where
      sorted : (w b y x o : F) → w ⊙ b ⊙ (y ⊙ x ⊙ o) ≡ x ⊙ w ⊙ (y ⊙ (b ⊙ o))
      sorted w b y x o = simp ⊙-ring

  -- ---- multiples of the measure's polynomials: those of a form of the solver

  module _ (a b g : F) (Λ B : Series) (a≢0 : a ≢ 𝟎) (b≢0 : b ≢ 𝟎)
      (Λ-is : Λ ≡ K a ⊠ m.Λ) (B-is : B ≡ K b ⊠ m.B) (g-is : g ≡ b ⊙ m.γ) where
    odd_multiple : odd_at k Λ p ≡ a ⊙ odd_at k m.Λ p
    odd_multiple =
        ap (λ f. value k (odd f) (W p)) Λ-is ∙ ap (λ f. value k f (W p)) (odd-K-⊠ _ _) ∙ value-K-⊠ k _ _ (W p)

    B_multiple : value k B (W p) ≡ b ⊙ value k m.B (W p)
    B_multiple = ap (λ f. value k f (W p)) B-is ∙ value-K-⊠ k _ _ (W p)

    first_multiple : Λ 0 ≡ a ⊙ m.Λ 0
    first_multiple = ap (λ f. f 0) Λ-is ∙ K-⊠-at a _ 0

    Ω_multiple : Ω_at r Λ S p ≡ a ⊙ value k v.P (W p)
    Ω_multiple =
        ap (λ f. value r (f ⊠ S) (W p)) Λ-is
        ∙ ap (λ f. value r f (W p)) (⊠_assoc (K a) _ S)
        ∙ value-K-⊠ r a _ (W p)
        ∙ ap (λ t. a ⊙ t)
        (value_cong r _ _ (W p) (key-low S r)
        ∙ value-more _ r _ (W p) v.below_P v.short
        ∙ sym (value-more _ k _ (W p) v.below_P (omega (arith, v.short, enough))))

    product : e p ⊙ divisor k Λ B p ≡ g ⊙ Λ 0 ⊙ pow (W p) r
    product =
        rw (B_multiple, odd_multiple) (before (e p) a b _ _ ∙ ap (λ t. a ⊙ b ⊙ t) whole ∙ after a b _ _ _)
        ∙ sym (ap₂ (λ s t. s ⊙ t ⊙ pow (W p) r) g-is first_multiple)
      where
        before : (y a b s o : F) → y ⊙ ((b ⊙ s) ⊙ (a ⊙ o)) ≡ a ⊙ b ⊙ (y ⊙ (s ⊙ o))
        before y a b s o = simp ⊙-ring

        after : (a b c l w : F) → a ⊙ b ⊙ (c ⊙ l ⊙ w) ≡ b ⊙ c ⊙ (a ⊙ l) ⊙ w
        after a b c l w = simp ⊙-ring

    dividend≢0 : g ⊙ Λ 0 ⊙ pow (W p) r ≢ 𝟎
    dividend≢0 = rw (g-is, first_multiple) (⊙_nonzero _ _
        (⊙_nonzero _ _ (⊙_nonzero _ _ b≢0 v.γ≢0) (⊙_nonzero _ _ a≢0 v.Λ0≢0))
        (pow_nonzero (W p) r (W_nonzero p)))

    multiple≢0 : divisor k Λ B p ≢ 𝟎
    multiple≢0 z = dividend≢0 (sym product ∙ ap (λ t. e p ⊙ t) z ∙ ⊙-zero _)

    multiple-odd≢0 : odd_at k Λ p ≢ 𝟎
    multiple-odd≢0 z = multiple≢0 (ap (λ t. value k B (W p) ⊙ t) z ∙ ⊙-zero _)

    multiple-evaluator : W p ⊙ Ω_at r Λ S p ⊙ inv (odd_at k Λ p) ≡ e p
    multiple-evaluator =
        ap (λ t. W p ⊙ t ⊙ inv (odd_at k Λ p)) (Ω_multiple ∙ ap (λ t. a ⊙ t) P-is)
        ∙ sorted (W p) a (e p) (X p) (odd_at k m.Λ p) _
        ∙ rw (X-W, ← odd_multiple, mul-inv _ multiple-odd≢0) (rw (⊙-one) (one-⊙ _))
      where
        sorted : (w a y x o i : F) → w ⊙ (a ⊙ (y ⊙ x ⊙ o)) ⊙ i ≡ x ⊙ w ⊙ (y ⊙ (a ⊙ o ⊙ i))
        sorted w a y x o i = simp ⊙-ring

    multiple-auxiliary : g ⊙ Λ 0 ⊙ pow (W p) r ⊙ inv (divisor k Λ B p) ≡ e p
    multiple-auxiliary =
        ap (λ t. t ⊙ inv (divisor k Λ B p)) (sym product)
        ∙ ⊙_assoc _ _ _
        ∙ rw (mul-inv _ multiple≢0) (⊙-one _)

-- ---- any first root

module _ (f n r k : ℕ) (S e : Series) (hn : n ≤ 255) (few : 2 * weight n e ≤ r)
    (agrees : (j : ℕ) → j < r → syndrome f n e j ≡ S j) (p : ℕ) (hp : p < n) (changed : e p ≢ 𝟎) (enough : r < k)
    (a b g : F) (Λ B : Series) (a≢0 : a ≢ 𝟎) (b≢0 : b ≢ 𝟎)
    (Λ-is : Λ ≡ K a ⊠ (measure S r).Λ) (B-is : B ≡ K b ⊠ (measure S r).B) (g-is : g ≡ b ⊙ (measure S r).γ) where
  twisted : Found S r n (twist f e)
  twisted = found n r S (twist f e) hn (omega (arith, weight-twist f e n)) (λ j l. syndrome-twist f n e j ∙ agrees j l)

  twisted≢0 : twist f e p ≢ 𝟎
  twisted≢0 z = changed (twist-zero f e p z)

  back : inverse_multiplier f p ⊙ twist f e p ≡ e p
  back = sym (untwist-at f _ p) ∙ ap (λ (h : Series). h p) (untwist-twist f e)

  pub values : Gives k f r g Λ B S p (e p)
  unfolding by_evaluator by_auxiliary
  values = record {
    odd≢0 =
        multiple-odd≢0 n r k S (twist f e) hn twisted p hp twisted≢0 enough a b g Λ B a≢0 b≢0 Λ-is B-is g-is;
    divisor≢0 =
        multiple≢0 n r k S (twist f e) hn twisted p hp twisted≢0 enough a b g Λ B a≢0 b≢0 Λ-is B-is g-is;
    evaluator =
        ap (λ t. inverse_multiplier f p ⊙ t)
        (multiple-evaluator n r k S (twist f e) hn twisted p hp twisted≢0 enough a b g Λ B a≢0 b≢0 Λ-is B-is g-is)
        ∙ back;
    auxiliary =
        ap (λ t. inverse_multiplier f p ⊙ t)
        (multiple-auxiliary n r k S (twist f e) hn twisted p hp twisted≢0 enough a b g Λ B a≢0 b≢0 Λ-is B-is g-is)
        ∙ back;
  }
