-- The candidate: the pattern that two polynomials Λ and Ω put forward, whatever they are. Settling is to put it
-- to the test. The first root is α.
--
--   candidate k Λ Ω   at position p, with w = W p: w·Ω(w)/Λ_odd(w) if w is a root of Λ, else zero. k coefficients of
--                     each are read
--   hits k Λ          one where W p is a root of Λ, else zero: weight n (hits k Λ) is the number of roots at
--                     positions below n
--   Multiple f g      f is g times a constant that is not zero; so the Λ of each form of the solver is a multiple of
--                     the measure's
--
-- Proved, for Λ a multiple of the measure's after 2t iterations over s, and Ω = Λ·s below m: s is settled by the
-- candidate if the candidate explains it, and else by nothing (settle-candidate). With L the length it is enough to
-- read L + 1 coefficients of Λ and L of Λ·s. A test that fails early is right to answer none: nothing settles s if L
-- exceeds t (settle-long) or is not the number of roots at positions below n (settle-roots). That a candidate that
-- explains is what settles, whatever Λ and Ω are, is `settle-one`.
use Rattle.std.specs.Prelude.{ℕ, zero, suc, ◌*◌, ◌≤◌, ◌<◌, ◌≡◌, ◌≢◌}
use Rattle.std.proofs.Common.{sym, ap, ap₂, ◌∙◌, arith}
use Rattle.std.proofs.Math.Logic.{ite, if_pos, if_neg, by_cases}
use Rattle.std.proofs.Math.Option.{none, some}
use Rattle.field.specs.Field.{F, 𝟎, 𝟏, ◌⊙◌, ◌≟◌, ⊙-zero, ⊙-ring, one≢zero, inv}
use Rattle.field.proofs.Field.{⊙_nonzero, mul-inv}
use Rattle.series.specs.Series.{Series, K, ◌⊞◌, ◌⊠◌, ⊠-ring, ⊞_lc, K-⊠-at, ⊠_assoc}
use Rattle.series.specs.Shift.{cut, cut_unique}
use Rattle.series.specs.Degree.{below-K-⊠, below_weaken}
use Rattle.series.specs.Value.{value, value-K-⊠, odd, odd-K-⊠}
use Rattle.series.specs.Word.{word, weight, weight-none, weight_skip, weight-take}
use Rattle.key_equation.specs.Run.{measure}
use Rattle.key_equation.specs.Shortest.{invariant, length, key-low}
use Rattle.settling.specs.Definition.{explains?, settle}
use Rattle.settling.specs.Locator.{W, lead, lead_nonzero, locator, evaluator, locator-root, locator_apart, forney}
use Rattle.settling.specs.Settle.{settle-never, settle_test}
use Rattle.settling.specs.Solve.{Found, explained}

-- inv (lead p) is w, the first root being α (lead-inv)
unfoldable pub candidate : ℕ → Series → Series → Series
candidate k Λ Ω p = ite (value k Λ (W p) ≟ 𝟎) (inv (lead p) ⊙ value k Ω (W p) ⊙ inv (value k (odd Λ) (W p))) 𝟎

unfoldable pub hits : ℕ → Series → Series
hits k Λ p = ite (value k Λ (W p) ≟ 𝟎) 𝟏 𝟎

pub candidate-root : (k : ℕ) (Λ Ω : Series) (p : ℕ) → value k Λ (W p) ≡ 𝟎
    → candidate k Λ Ω p ≡ inv (lead p) ⊙ value k Ω (W p) ⊙ inv (value k (odd Λ) (W p))
unfolding candidate
candidate-root k Λ Ω p z = if_pos (value k Λ (W p) ≟ 𝟎) z _ 𝟎

pub candidate-other : (k : ℕ) (Λ Ω : Series) (p : ℕ) → value k Λ (W p) ≢ 𝟎 → candidate k Λ Ω p ≡ 𝟎
unfolding candidate
candidate-other k Λ Ω p z = if_neg (value k Λ (W p) ≟ 𝟎) z _ 𝟎

pub hits-root : (k : ℕ) (Λ : Series) (p : ℕ) → value k Λ (W p) ≡ 𝟎 → hits k Λ p ≢ 𝟎
unfolding hits
hits-root k Λ p z = rw (if_pos (value k Λ (W p) ≟ 𝟎) z 𝟏 𝟎) one≢zero

pub hits-other : (k : ℕ) (Λ : Series) (p : ℕ) → value k Λ (W p) ≢ 𝟎 → hits k Λ p ≡ 𝟎
unfolding hits
hits-other k Λ p z = if_neg (value k Λ (W p) ≟ 𝟎) z 𝟏 𝟎

-- ---- a multiple of a pattern's locator

-- the factor b goes out
quotient : (y l b o : F) → l ≢ 𝟎 → b ⊙ o ≢ 𝟎 → inv l ⊙ (b ⊙ (y ⊙ l ⊙ o)) ⊙ inv (b ⊙ o) ≡ y
quotient y l b o h d =
    let e : inv l ⊙ (b ⊙ (y ⊙ l ⊙ o)) ⊙ inv (b ⊙ o) ≡ y ⊙ (l ⊙ inv l) ⊙ (b ⊙ o ⊙ inv (b ⊙ o)) = simp ⊙-ring in
    e ∙ rw (mul-inv l h, mul-inv (b ⊙ o) d) (simp ⊙-ring)

module _ (n k : ℕ) (e Λ : Series) (b : F) (hn : n ≤ 255) (hk : weight n e < k) (hb : b ≢ 𝟎) (is : Λ ≡ K b ⊠ locator n e)
    (p : ℕ) (hp : p < n) where
  value-is : value k Λ (W p) ≡ b ⊙ value k (locator n e) (W p)
  value-is = ap (λ f. value k f (W p)) is ∙ value-K-⊠ k b _ (W p)

  root-changed : e p ≢ 𝟎 → value k Λ (W p) ≡ 𝟎
  root-changed z = value-is ∙ rw (locator-root e p k (omega arith) n hp z hk) (⊙-zero b)

  root_unchanged : e p ≡ 𝟎 → value k Λ (W p) ≢ 𝟎
  root_unchanged z = rw value-is (⊙_nonzero _ _ hb (locator_apart e p k (omega arith) n hn (λ l. z) hk))

  multiple-candidate : (Ω : Series) → Ω ≡ K b ⊠ evaluator n e → candidate k Λ Ω p ≡ e p
  multiple-candidate Ω isΩ = by_cases (e p ≟ 𝟎) (λ z. candidate-other k Λ Ω p (root_unchanged z) ∙ sym z) changed
    where
      changed : e p ≢ 𝟎 → candidate k Λ Ω p ≡ e p
      changed z =
          let (o, v) = forney e p k (omega arith) n hn hp z hk in
          candidate-root k Λ Ω p (root-changed z)
          ∙ ap₂ (λ x y. inv (lead p) ⊙ x ⊙ inv y)
          (ap (λ f. value k f (W p)) isΩ ∙ value-K-⊠ k b _ (W p) ∙ ap (λ t. b ⊙ t) v)
          (ap (λ f. value k (odd f) (W p)) is ∙ ap (λ f. value k f (W p)) (odd-K-⊠ b _) ∙ value-K-⊠ k b _ (W p))
          ∙ quotient (e p) (lead p) b _ (lead_nonzero p) (⊙_nonzero _ _ hb o)

-- ---- words that are zero at the same positions

weight-same : (n : ℕ) (f g : Series) → ((p : ℕ) → p < n → g p ≡ 𝟎 → f p ≡ 𝟎) → ((p : ℕ) → p < n → g p ≢ 𝟎 → f p ≢ 𝟎)
    → weight n f ≡ weight n g
weight-same zero f g h c = weight-none f ∙ sym (weight-none g)
weight-same (suc n) f g h c =
    let ih : weight n f ≡ weight n g = weight-same n f g (λ p l. h p (omega arith)) (λ p l. c p (omega arith)) in
    by_cases (g n ≟ 𝟎)
    (λ z. weight_skip n f (h n (omega arith) z) ∙ ih ∙ sym (weight_skip n g z))
    (λ z. weight-take n f (c n (omega arith) z) ∙ ap suc ih ∙ sym (weight-take n g z))

-- ---- a multiple of the measure's Λ

abbrev pub Multiple : Series → Series → Type 0
Multiple f g = (a : F) × (a ≢ 𝟎) × (f ≡ K a ⊠ g)

-- Λ·s below m is a multiple of P
numerator : (r m : ℕ) (s Λ : Series) (a : F) → length s r ≤ m → m ≤ r → Λ ≡ K a ⊠ (measure s r).Λ
    → cut m (Λ ⊠ s) ≡ K a ⊠ (invariant s r).P
numerator r m s Λ a l h is = cut_unique m _ _ low (below-K-⊠ m a _ (below_weaken _ m _ (invariant s r).below_P l))
  where
    low : (i : ℕ) → i < m → (Λ ⊠ s) i ≡ (K a ⊠ (invariant s r).P) i
    low i j =
        ap (λ f. (f ⊠ s) i) is
        ∙ ap (λ f. f i) (⊠_assoc (K a) _ s)
        ∙ K-⊠-at a _ i
        ∙ ap (λ t. a ⊙ t) (key-low s r i (omega arith))
        ∙ sym (K-⊠-at a _ i)

-- where e is found, after r iterations over s
module _ (r n k : ℕ) (s Λ e : Series) (hn : n ≤ 255) (scaled : Multiple Λ (measure s r).Λ) (enough : length s r < k)
    (f : Found s r n e) where
  factor : F
  factor = scaled.0 ⊙ (measure s r).Λ 0

  factor≢0 : factor ≢ 𝟎
  unfolding factor
  factor≢0 = ⊙_nonzero _ _ scaled.1 (invariant s r).Λ0≢0

  locators : Λ ≡ K factor ⊠ locator n e
  unfolding factor
  locators = ⊞_lc (λ i. scaled.2 i ⊞ K scaled.0 ⊠ f.locator_is i) (simp ⊠-ring)

  evaluators : (m : ℕ) → length s r ≤ m → m ≤ r → cut m (Λ ⊠ s) ≡ K factor ⊠ evaluator n e
  unfolding factor
  evaluators m l h = numerator r m s Λ scaled.0 l h scaled.2
      ∙ ⊞_lc (λ i. K scaled.0 ⊠ f.evaluator_is i) (simp ⊠-ring)

  few : weight n e < k
  few = omega (arith, enough, f.length_is)

  pub candidate-is : (m : ℕ) → length s r ≤ m → m ≤ r → (p : ℕ) → p < n → candidate k Λ (cut m (Λ ⊠ s)) p ≡ e p
  candidate-is m l h p hp = multiple-candidate n k e Λ factor hn few factor≢0 locators p hp _ (evaluators m l h)

  pub roots_are : weight n (hits k Λ) ≡ length s r
  roots_are =
      weight-same n (hits k Λ) e
      (λ p l z. hits-other k Λ p (root_unchanged n k e Λ factor hn few factor≢0 locators p l z))
      (λ p l z. hits-root k Λ p (root-changed n k e Λ factor hn few factor≢0 locators p l z))
      ∙ sym f.length_is

-- ---- what settles s

pub settle-candidate : (t n k m : ℕ) (s Λ : Series) → n ≤ 255 → Multiple Λ (measure s (2 * t)).Λ
    → length s (2 * t) < k → length s (2 * t) ≤ m → m ≤ 2 * t
    → settle 1 t n s
    ≡ ite (explains? 1 t n s (candidate k Λ (cut m (Λ ⊠ s)))) (some (word n (candidate k Λ (cut m (Λ ⊠ s))))) none
settle-candidate t n k m s Λ hn scaled enough l h =
    settle_test 1 t n s _ hn (λ e x. candidate-is (2 * t) n k s Λ e hn scaled enough (explained t n s e hn x) m l h)

pub settle-roots : (t n k : ℕ) (s Λ : Series) → n ≤ 255 → Multiple Λ (measure s (2 * t)).Λ → length s (2 * t) < k
    → weight n (hits k Λ) ≢ length s (2 * t) → settle 1 t n s ≡ none
settle-roots t n k s Λ hn scaled enough h =
    settle-never 1 t n s (λ e x. h (roots_are (2 * t) n k s Λ e hn scaled enough (explained t n s e hn x)))

pub settle-long : (t n : ℕ) (s : Series) → n ≤ 255 → t < length s (2 * t) → settle 1 t n s ≡ none
settle-long t n s hn h = settle-never 1 t n s (λ e x. omega (arith, (explained t n s e hn x).length_is, x.within))
