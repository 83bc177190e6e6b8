-- Sequences of field values with sum and convolution: the ring of power series over F, of characteristic 2.
-- A polynomial is a series whose coefficients are zero from some place on (Degree.antt).
--
--   Series      ℕ → F, the coefficients
--   O           zero
--   K a         the constant a
--   Z           the variable z
--   f ⊞ g       the sum
--   f ⊠ g       the product: (f ⊠ g) n = f 0 ⊙ g n ⊕ f 1 ⊙ g (n - 1) ⊕ .. ⊕ f n ⊙ g 0
--   tail f      (f + f 0)/z: the constant term dropped, the rest moved down by one
--   ⊞-group     laws of sums; `simp ⊞-group` proves an identity of sums
--   ⊠-ring      laws of the ring; `simp ⊠-ring` proves an identity of the ring
--   at-zero     `simp at_zero` computes coefficient 0 of an expression
--   ⊞_lc        an equation from a linear combination of others
--
-- Proved: the coefficients of each operation, the ring laws as equations of series, f = f 0 + z·tail f.
use Rattle.std.specs.Prelude.{ℕ, zero, suc, ◌-◌, ◌≤◌, ◌≡◌, refl}
use Rattle.std.proofs.Common.{sym, ap, ◌∙◌, arith}
use Rattle.std.proofs.Math.Path.{fun_ext}
use Rattle.std.proofs.Math.Nat.{sub-zero, suc-sub-suc}
use Rattle.field.specs.Field.{F, 𝟎, 𝟏, ◌⊕◌, ◌⊙◌, zero-⊕, ⊕-zero, one-⊙, ⊙-one, zero-⊙, ⊙-zero, ⊙_comm, ⊙-ring, ⊕-group}
use Rattle.series.specs.Sum.{sum, sum-none, sum-suc, sum_head, sum_cong, sum_rev}

abbrev pub Series : Type 0
Series = ℕ → F

unfoldable pub O : Series
O i = 𝟎

unfoldable pub K : F → Series
K a zero = a
K a (suc i) = 𝟎

unfoldable pub Z : Series
Z zero = 𝟎
Z (suc i) = K 𝟏 i

infixl 60 ◌⊞◌
unfoldable pub ◌⊞◌ : Series → Series → Series
◌⊞◌ f g i = f i ⊕ g i

infixl 70 ◌⊠◌
unfoldable pub ◌⊠◌ : Series → Series → Series
◌⊠◌ f g n = sum (suc n) (λ i. f i ⊙ g (n - i))

unfoldable pub tail : Series → Series
tail f i = f (suc i)

-- ---- coefficients

pub O-at : (i : ℕ) → O i ≡ 𝟎
unfolding O
O-at i = refl

pub K_at0 : (a : F) → K a 0 ≡ a
unfolding K
K_at0 a = refl

pub K-suc : (a : F) (i : ℕ) → K a (suc i) ≡ 𝟎
unfolding K
K-suc a i = refl

pub Z_at0 : Z 0 ≡ 𝟎
unfolding Z
Z_at0 = refl

pub ⊞-at : (f g : Series) (i : ℕ) → (f ⊞ g) i ≡ f i ⊕ g i
unfolding ◌⊞◌
⊞-at f g i = refl

pub tail_at : (f : Series) (i : ℕ) → tail f i ≡ f (suc i)
unfolding tail
tail_at f i = refl

pub ⊠-at : (f g : Series) (n : ℕ) → (f ⊠ g) n ≡ sum (suc n) (λ i. f i ⊙ g (n - i))
unfolding ◌⊠◌
⊠-at f g n = refl

pub ⊠_at0 : (f g : Series) → (f ⊠ g) 0 ≡ f 0 ⊙ g 0
⊠_at0 f g = ⊠-at f g 0 ∙ sum-suc 0 _ ∙ rw sum-none (zero-⊕ (f 0 ⊙ g 0))

pub ⊠-suc : (f g : Series) (n : ℕ) → (f ⊠ g) (suc n) ≡ f 0 ⊙ g (suc n) ⊕ (tail f ⊠ g) n
unfolding tail ◌⊠◌
⊠-suc f g n = sum_head (suc n) _ ∙ simp (sub-zero, suc-sub-suc)

-- coefficient i of a product depends on the coefficients up to i
pub ⊠-agree : (f g h : Series) (i : ℕ) → ((j : ℕ) → j ≤ i → g j ≡ h j) → (f ⊠ g) i ≡ (f ⊠ h) i
unfolding ◌⊠◌
⊠-agree f g h i p = sum_cong (suc i) _ _ (λ j l. ap (λ w. f j ⊙ w) (p (i - j) (omega arith)))

-- ---- sums

pub ⊞_assoc : (f g h : Series) → f ⊞ g ⊞ h ≡ f ⊞ (g ⊞ h)
⊞_assoc f g h = fun_ext (λ i. simp (⊞-at, ⊕-group))

pub ⊞_comm : (f g : Series) → f ⊞ g ≡ g ⊞ f
⊞_comm f g = fun_ext (λ i. simp (⊞-at, ⊕-group))

pub ⊞-left_comm : (f g h : Series) → f ⊞ (g ⊞ h) ≡ g ⊞ (f ⊞ h)
⊞-left_comm f g h = fun_ext (λ i. simp (⊞-at, ⊕-group))

pub ⊞_self : (f : Series) → f ⊞ f ≡ O
⊞_self f = fun_ext (λ i. simp (⊞-at, O-at, ⊕-group))

pub ⊞_self-left : (f g : Series) → f ⊞ (f ⊞ g) ≡ g
⊞_self-left f g = fun_ext (λ i. simp (⊞-at, ⊕-group))

pub ⊞-zero : (f : Series) → f ⊞ O ≡ f
⊞-zero f = fun_ext (λ i. simp (⊞-at, O-at, ⊕-zero))

pub zero-⊞ : (f : Series) → O ⊞ f ≡ f
zero-⊞ f = fun_ext (λ i. simp (⊞-at, O-at, zero-⊕))

pub ruleset ⊞-group = (⊞_assoc, ⊞_comm, ⊞-left_comm, ⊞_self, ⊞_self-left, ⊞-zero, zero-⊞)

-- ---- the constant term dropped

pub tail-O : tail O ≡ O
unfolding tail O
tail-O = refl

pub tail-K : (a : F) → tail (K a) ≡ O
unfolding tail K O
tail-K a = refl

pub tail-Z : tail Z ≡ K 𝟏
unfolding tail Z
tail-Z = refl

pub tail-⊞ : (f g : Series) → tail (f ⊞ g) ≡ tail f ⊞ tail g
unfolding tail ◌⊞◌
tail-⊞ f g = refl

-- ---- products, coefficient by coefficient

ruleset at = (⊞-at, ⊠_at0, ⊠-suc, tail_at, tail-⊞, O-at)

⊞-⊠-at : (f g h : Series) (n : ℕ) → ((f ⊞ g) ⊠ h) n ≡ (f ⊠ h) n ⊕ (g ⊠ h) n
⊞-⊠-at f g h zero = simp (at, ⊙-ring)
⊞-⊠-at f g h (suc n) = simp (at, ⊞-⊠-at (tail f) (tail g) h n, ⊙-ring)

zero-⊠-at : (f : Series) (n : ℕ) → (O ⊠ f) n ≡ 𝟎
zero-⊠-at f zero = simp (at, zero-⊙)
zero-⊠-at f (suc n) = simp (at, tail-O, zero-⊠-at f n, zero-⊙, zero-⊕)

pub K-⊠-at : (a : F) (f : Series) (n : ℕ) → (K a ⊠ f) n ≡ a ⊙ f n
K-⊠-at a f zero = simp (at, K_at0)
K-⊠-at a f (suc n) = simp (at, K_at0, tail-K, zero-⊠-at, ⊕-zero)

pub tail-K-⊠ : (a : F) (f : Series) → tail (K a ⊠ f) ≡ K a ⊠ tail f
tail-K-⊠ a f = fun_ext (λ i. simp (tail_at, K-⊠-at))

scale-⊠-at : (a : F) (f g : Series) (n : ℕ) → (K a ⊠ f ⊠ g) n ≡ a ⊙ (f ⊠ g) n
scale-⊠-at a f g zero = simp (at, K_at0, ⊙-ring)
scale-⊠-at a f g (suc n) = rw (⊠-suc (K a ⊠ f) g n, tail-K-⊠, scale-⊠-at a (tail f) g n) (simp (at, K_at0, ⊙-ring))

tail-⊠ : (f g : Series) → tail (f ⊠ g) ≡ K (f 0) ⊠ tail g ⊞ tail f ⊠ g
tail-⊠ f g = fun_ext (λ i. simp (at, K-⊠-at))

⊠_assoc-at : (f g h : Series) (n : ℕ) → (f ⊠ g ⊠ h) n ≡ (f ⊠ (g ⊠ h)) n
⊠_assoc-at f g h zero = simp (at, ⊙-ring)
⊠_assoc-at f g h (suc n) =
    rw (⊠-suc (f ⊠ g) h n, tail-⊠ f g, ⊞-⊠-at, scale-⊠-at, ⊠_assoc-at (tail f) g h n) (simp (at, ⊙-ring))

⊠_comm-at : (f g : Series) (n : ℕ) → (f ⊠ g) n ≡ (g ⊠ f) n
unfolding ◌⊠◌
⊠_comm-at f g n = sum_rev n _ ∙ sum_cong (suc n) _ _ (λ i l. let e : n - (n - i) ≡ i = omega arith in rw e (⊙_comm _ _))

-- ---- the ring

pub ⊠_assoc : (f g h : Series) → f ⊠ g ⊠ h ≡ f ⊠ (g ⊠ h)
⊠_assoc f g h = fun_ext (⊠_assoc-at f g h)

pub ⊠_comm : (f g : Series) → f ⊠ g ≡ g ⊠ f
⊠_comm f g = fun_ext (⊠_comm-at f g)

pub ⊠-left_comm : (f g h : Series) → f ⊠ (g ⊠ h) ≡ g ⊠ (f ⊠ h)
⊠-left_comm f g h = sym (⊠_assoc f g h) ∙ ap (λ t. t ⊠ h) (⊠_comm f g) ∙ ⊠_assoc g f h

pub one-⊠ : (f : Series) → K 𝟏 ⊠ f ≡ f
one-⊠ f = fun_ext (λ i. K-⊠-at 𝟏 f i ∙ one-⊙ (f i))

pub ⊠-one : (f : Series) → f ⊠ K 𝟏 ≡ f
⊠-one f = ⊠_comm f (K 𝟏) ∙ one-⊠ f

pub zero-⊠ : (f : Series) → O ⊠ f ≡ O
zero-⊠ f = fun_ext (λ i. rw O-at (zero-⊠-at f i))

pub ⊠-zero : (f : Series) → f ⊠ O ≡ O
⊠-zero f = ⊠_comm f O ∙ zero-⊠ f

pub ⊞-⊠ : (f g h : Series) → (f ⊞ g) ⊠ h ≡ f ⊠ h ⊞ g ⊠ h
⊞-⊠ f g h = fun_ext (λ i. rw (⊞-at (f ⊠ h)) (⊞-⊠-at f g h i))

pub ⊠-⊞ : (f g h : Series) → f ⊠ (g ⊞ h) ≡ f ⊠ g ⊞ f ⊠ h
⊠-⊞ f g h = ⊠_comm f (g ⊞ h) ∙ ⊞-⊠ g h f ∙ simp ⊠_comm

pub K-zero : K 𝟎 ≡ O
unfolding K O
K-zero = fun_ext at_i
  where
    at_i : (i : ℕ) → K 𝟎 i ≡ O i
    at_i zero = refl
    at_i (suc i) = refl

pub K-⊕ : (a b : F) → K (a ⊕ b) ≡ K a ⊞ K b
unfolding K ◌⊞◌
K-⊕ a b = fun_ext at_i
  where
    at_i : (i : ℕ) → K (a ⊕ b) i ≡ K a i ⊕ K b i
    at_i zero = refl
    at_i (suc i) = sym (zero-⊕ 𝟎)

pub K-⊙ : (a b : F) → K (a ⊙ b) ≡ K a ⊠ K b
unfolding K
K-⊙ a b = fun_ext (λ i. sym (K-⊠-at a (K b) i ∙ at_i i))
  where
    at_i : (i : ℕ) → a ⊙ K b i ≡ K (a ⊙ b) i
    at_i zero = refl
    at_i (suc i) = ⊙-zero a

pub ruleset ⊠-ring =
    (⊞-group, ⊠_assoc, ⊠_comm, ⊠-left_comm, ⊠-zero, zero-⊠, ⊠-one, one-⊠, ⊠-⊞, ⊞-⊠, K-⊙, K-⊕, K-zero)

-- ---- the variable

pub Z-⊠_at0 : (f : Series) → (Z ⊠ f) 0 ≡ 𝟎
Z-⊠_at0 f = simp (⊠_at0, Z_at0, zero-⊙)

pub Z-⊠-at : (f : Series) (n : ℕ) → (Z ⊠ f) (suc n) ≡ f n
Z-⊠-at f n = simp (⊠-suc, Z_at0, tail-Z, K-⊠-at, zero-⊙, one-⊙, zero-⊕)

pub tail-Z-⊠ : (f : Series) → tail (Z ⊠ f) ≡ f
tail-Z-⊠ f = fun_ext (λ i. simp (tail_at, Z-⊠-at))

pub head_tail : (f : Series) → f ≡ K (f 0) ⊞ Z ⊠ tail f
head_tail f = fun_ext at_i
  where
    at_i : (i : ℕ) → f i ≡ (K (f 0) ⊞ Z ⊠ tail f) i
    at_i zero = simp (⊞-at, K_at0, Z-⊠_at0, ⊕-zero)
    at_i (suc i) = simp (⊞-at, K-suc, Z-⊠-at, tail_at, zero-⊕)

pub Z-tail : (f : Series) → f 0 ≡ 𝟎 → Z ⊠ tail f ≡ f
Z-tail f h = sym (head_tail f ∙ rw (h, K-zero, zero-⊞))

pub ruleset at_zero = (⊞-at, ⊠_at0, K_at0, Z_at0, O-at, zero-⊕, ⊕-zero, zero-⊙, ⊙-zero, one-⊙, ⊙-one)

-- ---- linear combinations

-- The goal x ≡ y from s ≡ t, a combination of equations written as a path; the last argument is `simp ⊠-ring`.
pub ⊞_lc : {x y s t : Series} → s ≡ t → x ⊞ s ≡ y ⊞ t → x ≡ y
⊞_lc {x} {y} {s} {t} h p =
    let e : x ⊞ t ⊞ t ≡ y ⊞ t ⊞ t = ap (λ u. u ⊞ t) (rw h at p) in
    simp ⊞-group at e

-- ---- examples

-- (γΛ + δzB)·zP + zΛ·(γP + δQ) = zδ·(zB·P + Λ·Q)
example_ring : (γ δ : F) (Λ B P Q : Series)
    → (K γ ⊠ Λ ⊞ K δ ⊠ (Z ⊠ B)) ⊠ (Z ⊠ P) ⊞ Z ⊠ Λ ⊠ (K γ ⊠ P ⊞ K δ ⊠ Q) ≡ Z ⊠ K δ ⊠ (Z ⊠ B ⊠ P ⊞ Λ ⊠ Q)
example_ring γ δ Λ B P Q = simp ⊠-ring

-- a(b + 1)f, the constants added and multiplied in the field or in the ring
example_constants : (a b : F) (f : Series) → K (a ⊙ b ⊕ a) ⊠ f ≡ K a ⊠ (K b ⊞ K 𝟏) ⊠ f
example_constants a b f = simp ⊠-ring

-- γ times the first equation and δ times the second
example_lc : (γ δ : F) (Λ B S P Q D E N : Series) → Λ ⊠ S ⊞ P ≡ N ⊠ D → B ⊠ S ⊞ Q ≡ N ⊠ E
    → (K γ ⊠ Λ ⊞ K δ ⊠ B) ⊠ S ⊞ (K γ ⊠ P ⊞ K δ ⊠ Q) ≡ N ⊠ (K γ ⊠ D ⊞ K δ ⊠ E)
example_lc γ δ Λ B S P Q D E N key aux = ⊞_lc (λ i. K γ ⊠ key i ⊞ K δ ⊠ aux i) (simp ⊠-ring)

-- coefficient 0
example-zero : (a : F) (f g : Series) → f 0 ≡ 𝟏 → ((K a ⊞ Z ⊠ g) ⊠ f) 0 ≡ a
example-zero a f g h = simp (at_zero, h)
