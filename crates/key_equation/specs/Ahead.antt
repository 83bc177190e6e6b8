-- The laws of what the forms share: the sums `ahead` that Δ and Θ stand for, the test `swaps`, and `or_one`.
--
--   Agree r S J   S and J have the same syndromes below r
--
-- Proved, with T r f for ahead r f S: T (r + 1) f is T r f /z + S_(r+1) f (ahead-next) and T (r + 1) (zf) is T r
-- f + S_(r+1) zf (ahead-next-Z); T r is linear; an entry adds S_u f to it (ahead_enter); it is zero where the syndromes
-- are (ahead-zero); it has no more coefficients than f (ahead-below); it reads the syndromes up to r alone
-- (ahead-agree). Its constant term at Λ is the plain form's δ (δ-ahead), which is coefficient r of Λ·S (δ_convolution).
use Rattle.std.specs.Prelude.{ℕ, suc, ◌+◌, ◌-◌, ◌<◌, ◌≡◌, refl, Bool, true, false, cond, ◌≢◌, ℤ}
use Rattle.std.proofs.Common.{sym, ap, ◌∙◌, true≢false, arith, add-zero, zero-add, suc-add, add-suc}
use Rattle.std.proofs.Math.Path.{fun_ext}
use Rattle.std.proofs.Math.Nat.{suc-sub-suc, sub-zero}
use Rattle.field.specs.Field.{F, 𝟎, 𝟏, ◌⊕◌, ◌⊙◌, is_zero, ⊕_comm, ⊙_comm, ⊙-zero, zero-⊙, ⊙-ring}
use Rattle.field.specs.Field.{one≢zero, is_zero_yes, is_zero_false}
use Rattle.series.specs.Sum.{sum, sum_head, sum_cong, sum-zero, sum-⊕, ⊙-sum}
use Rattle.series.specs.Series.{Series, O, ◌⊞◌, ◌⊠◌, K, Z, tail, O-at, ⊞-at, ⊠-at, K-⊠-at}
use Rattle.series.specs.Series.{Z-⊠-at, tail_at, tail-⊞, tail-K-⊠}
use Rattle.series.specs.Degree.{below}
use Rattle.key_equation.specs.Shared.{swaps, from_to, ahead, or_one}
use Rattle.key_equation.specs.Plain as Plain

abbrev pub Agree : ℕ → Series → Series → Type 0
Agree r S J = (i : ℕ) → i < r → S i ≡ J i

pub ahead-at : (r : ℕ) (f S : Series) (j : ℕ) → ahead r f S j ≡ sum (suc r) (λ i. f (j + i) ⊙ S (r - i))
unfolding ahead from_to
ahead-at r f S j =
    let e : suc (r + j) - j ≡ suc r = omega arith in
    let p : (i : ℕ) → r + j - (j + i) ≡ r - i = λ i. omega arith in
    rw e (sum_cong (suc r) _ _ (λ i l. ap (λ t. f (j + i) ⊙ S t) (p i)))

pub δ-ahead : (r : ℕ) (S : Series) (s : Plain.State) → Plain.δ r S s ≡ ahead r s.Λ S 0
unfolding Plain.δ ahead
δ-ahead r S s = rw add-zero

-- and coefficient r of Λ·S
pub δ_convolution : (r : ℕ) (S : Series) (s : Plain.State) → Plain.δ r S s ≡ (s.Λ ⊠ S) r
unfolding Plain.δ from_to
δ_convolution r S s = simp (sub-zero, zero-add, ⊠-at)

-- the newest syndrome's term apart
peel : (r : ℕ) (f S : Series) (j : ℕ) → ahead r f S j ≡ f j ⊙ S r ⊕ sum r (λ i. f (j + suc i) ⊙ S (r - suc i))
peel r f S j = ahead-at r f S j ∙ sum_head r _ ∙ simp (add-zero, sub-zero)

-- ---- one syndrome more

pub ahead-next : (r : ℕ) (f S : Series) → ahead (suc r) f S ≡ tail (ahead r f S) ⊞ K (S (suc r)) ⊠ f
ahead-next r f S = fun_ext at_j
  where
    older : (j : ℕ) → sum (suc r) (λ i. f (j + suc i) ⊙ S (suc r - suc i)) ≡ ahead r f S (suc j)
    older j = simp (suc-sub-suc, add-suc) (sym (ahead-at r f S (suc j) ∙ simp suc-add))

    at_j : (j : ℕ) → ahead (suc r) f S j ≡ (tail (ahead r f S) ⊞ K (S (suc r)) ⊠ f) j
    at_j j = peel (suc r) f S j ∙ ap (λ t. f j ⊙ S (suc r) ⊕ t) (older j) ∙ ⊕_comm _ _
        ∙ simp (⊞-at, K-⊠-at, tail_at, ⊙_comm)

pub ahead-Z : (r : ℕ) (f S : Series) → tail (ahead r (Z ⊠ f) S) ≡ ahead r f S
ahead-Z r f S =
    fun_ext (λ j. tail_at _ j ∙ ahead-at r (Z ⊠ f) S (suc j) ∙ simp (suc-add, Z-⊠-at) (sym (ahead-at r f S j)))

pub ahead-next-Z : (r : ℕ) (f S : Series) → ahead (suc r) (Z ⊠ f) S ≡ ahead r f S ⊞ K (S (suc r)) ⊠ (Z ⊠ f)
ahead-next-Z r f S = ahead-next r (Z ⊠ f) S ∙ rw ahead-Z

pub ahead_linear : (r : ℕ) (a b : F) (f g S : Series)
    → ahead r (K a ⊠ f ⊞ K b ⊠ g) S ≡ K a ⊠ ahead r f S ⊞ K b ⊠ ahead r g S
ahead_linear r a b f g S = fun_ext at_j
  where
    term : (j i : ℕ)
        → (K a ⊠ f ⊞ K b ⊠ g) (j + i) ⊙ S (r - i) ≡ a ⊙ (f (j + i) ⊙ S (r - i)) ⊕ b ⊙ (g (j + i) ⊙ S (r - i))
    term j i = simp (⊞-at, K-⊠-at, ⊙-ring)

    at_j : (j : ℕ) → ahead r (K a ⊠ f ⊞ K b ⊠ g) S j ≡ (K a ⊠ ahead r f S ⊞ K b ⊠ ahead r g S) j
    at_j j =
        ahead-at r _ S j
        ∙ sum_cong (suc r) _ _ (λ i l. term j i)
        ∙ sum-⊕ (suc r) _ _
        ∙ sym (simp (⊞-at, K-⊠-at, ahead-at, ⊙-sum))

-- the sums of the new Λ
pub ahead-update : (r : ℕ) (a b : F) (f g S : Series)
    → ahead (suc r) (K a ⊠ f ⊞ K b ⊠ (Z ⊠ g)) S
    ≡ K a ⊠ tail (ahead r f S) ⊞ K b ⊠ ahead r g S ⊞ K (S (suc r)) ⊠ (K a ⊠ f ⊞ K b ⊠ (Z ⊠ g))
ahead-update r a b f g S = ahead-next r _ S ∙ rw ahead_linear (simp (tail-⊞, tail-K-⊠, ahead-Z))

-- ---- other syndromes

-- a round is entered: before it S_u was read as 0
pub ahead_enter : (u : ℕ) (f S S' : Series) → Agree u S S' → S u ≡ 𝟎 → ahead u f S' ≡ ahead u f S ⊞ K (S' u) ⊠ f
ahead_enter u f S S' h z = fun_ext at_j
  where
    older : (j : ℕ) → sum u (λ i. f (j + suc i) ⊙ S' (u - suc i)) ≡ sum u (λ i. f (j + suc i) ⊙ S (u - suc i))
    older j = sum_cong u _ _ (λ i l. ap (λ t. f (j + suc i) ⊙ t) (sym (h (u - suc i) (omega arith))))

    at_j : (j : ℕ) → ahead u f S' j ≡ (ahead u f S ⊞ K (S' u) ⊠ f) j
    at_j j = peel u f S' j ∙ rw (older j) (sym (⊞-at _ _ j ∙ rw (peel u f S j, z, K-⊠-at) (simp ⊙-ring)))

pub ahead-zero : (r : ℕ) (f S : Series) → ((i : ℕ) → S i ≡ 𝟎) → ahead r f S ≡ O
ahead-zero r f S z =
    fun_ext (λ j. ahead-at r f S j ∙ sum-zero (suc r) _ (λ i l. simp (z (r - i), ⊙-zero)) ∙ sym (O-at j))

pub ahead-below : (n r : ℕ) (f S : Series) → below n f → below n (ahead r f S)
ahead-below n r f S h j l = ahead-at r f S j ∙ sum-zero (suc r) _ (λ i p. simp (h (j + i) (omega arith), zero-⊙))

pub ahead-agree : (r : ℕ) (f S J : Series) → Agree (suc r) S J → ahead r f S ≡ ahead r f J
ahead-agree r f S J h =
    fun_ext (λ j. ahead-at r f S j ∙ sum_cong (suc r) _ _ (λ i l. ap (λ t. f (j + i) ⊙ t) (h (r - i) (omega arith)))
    ∙ sym (ahead-at r f J j))

-- ---- swaps and or_one

pub swaps_nonzero : (d : F) (k : ℤ) → swaps d k ≡ true → d ≢ 𝟎
unfolding swaps
swaps_nonzero d k e z = true≢false (sym e ∙ rw (is_zero_yes d z) refl)

pub or_one_nonzero : (x : F) → or_one x ≢ 𝟎
unfolding or_one
or_one_nonzero x = go (is_zero x) refl
  where
    go : (b : Bool) → is_zero x ≡ b → cond b 𝟏 x ≢ 𝟎
    go true e = one≢zero
    go false e = is_zero_false x e

pub or_one-zero : (x : F) → x ≡ 𝟎 → or_one x ≡ 𝟏
unfolding or_one
or_one-zero x z = rw (is_zero_yes x z) refl
