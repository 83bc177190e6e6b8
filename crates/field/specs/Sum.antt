-- Laws of the sum: F is a commutative group in which every value is its own negative.
--
-- Proved: associative, commutative, neutral 𝟎, x ⊕ x ≡ 𝟎, cancellation.
-- Tools:  `simp ⊕-group` proves an equation of sums; `⊕_lc` proves an equation from a combination of others.
use Rattle.std.specs.Prelude.{◌≡◌, refl, Bool, true, false}
use Rattle.std.proofs.Common.{sym, ap, ◌∙◌}
use Rattle.std.proofs.Math.Bool.{xor}
use Rattle.field.specs.Definition.{F, poly, 𝟎, ◌⊕◌}

-- ---- coefficients

pub xor_false : (a : Bool) → xor a false ≡ a
unfolding xor
xor_false true = refl
xor_false false = refl

false-xor : (a : Bool) → xor false a ≡ a
unfolding xor
false-xor true = refl
false-xor false = refl

xor_self : (a : Bool) → xor a a ≡ false
unfolding xor
xor_self true = refl
xor_self false = refl

xor_comm : (a b : Bool) → xor a b ≡ xor b a
unfolding xor
xor_comm true true = refl
xor_comm true false = refl
xor_comm false true = refl
xor_comm false false = refl

xor_assoc : (a b c : Bool) → xor (xor a b) c ≡ xor a (xor b c)
unfolding xor
xor_assoc true true true = refl
xor_assoc true true false = refl
xor_assoc true false true = refl
xor_assoc true false false = refl
xor_assoc false true true = refl
xor_assoc false true false = refl
xor_assoc false false true = refl
xor_assoc false false false = refl

-- ---- values

pub ⊕_assoc : (x y z : F) → x ⊕ y ⊕ z ≡ x ⊕ (y ⊕ z)
unfolding ◌⊕◌
⊕_assoc (poly x0 x1 x2 x3 x4 x5 x6 x7) (poly y0 y1 y2 y3 y4 y5 y6 y7) (poly z0 z1 z2 z3 z4 z5 z6 z7) = simp xor_assoc

pub ⊕_comm : (x y : F) → x ⊕ y ≡ y ⊕ x
unfolding ◌⊕◌
⊕_comm (poly x0 x1 x2 x3 x4 x5 x6 x7) (poly y0 y1 y2 y3 y4 y5 y6 y7) = simp xor_comm

pub ⊕_self : (x : F) → x ⊕ x ≡ 𝟎
unfolding ◌⊕◌ 𝟎
⊕_self (poly x0 x1 x2 x3 x4 x5 x6 x7) = simp xor_self

pub zero-⊕ : (x : F) → 𝟎 ⊕ x ≡ x
unfolding ◌⊕◌ 𝟎
zero-⊕ (poly x0 x1 x2 x3 x4 x5 x6 x7) = simp false-xor

pub ⊕-zero : (x : F) → x ⊕ 𝟎 ≡ x
⊕-zero x = ⊕_comm x 𝟎 ∙ zero-⊕ x

pub ⊕-left_comm : (x y z : F) → x ⊕ (y ⊕ z) ≡ y ⊕ (x ⊕ z)
⊕-left_comm x y z = sym (⊕_assoc x y z) ∙ ap (λ (s : F). s ⊕ z) (⊕_comm x y) ∙ ⊕_assoc y x z

pub ⊕_self-left : (x y : F) → x ⊕ (x ⊕ y) ≡ y
⊕_self-left x y = sym (⊕_assoc x x y) ∙ ap (λ (s : F). s ⊕ y) (⊕_self x) ∙ zero-⊕ y

-- sums in one order, without pairs of equal terms: `simp ⊕-group` proves an equation of sums
pub ruleset ⊕-group = (⊕_assoc, ⊕_comm, ⊕-left_comm, ⊕_self, ⊕_self-left, ⊕-zero, zero-⊕)

pub ⊕_cancel : {x y : F} (z : F) → x ⊕ z ≡ y ⊕ z → x ≡ y
⊕_cancel {x} {y} z e = sym (undo x) ∙ ap (λ (s : F). s ⊕ z) e ∙ undo y
  where
    undo : (a : F) → a ⊕ z ⊕ z ≡ a
    undo a = simp ⊕-group

-- a sum is zero only where its two terms are equal
pub ⊕-equal : (x y : F) → x ⊕ y ≡ 𝟎 → x ≡ y
⊕-equal x y e = ⊕_cancel y (e ∙ sym (⊕_self y))

-- The goal x ≡ y from a combination s ≡ t of equations; the last argument is `simp ⊙-ring`.
pub ⊕_lc : {x y s t : F} → s ≡ t → x ⊕ s ≡ y ⊕ t → x ≡ y
⊕_lc {x} {y} {s} {t} e p = ⊕_cancel t (ap (λ (u : F). x ⊕ u) (sym e) ∙ p)
