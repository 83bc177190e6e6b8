-- Laws of the product: with it F is a commutative ring.
--
-- Proved: linear on both sides, associative, commutative, neutral 𝟏.
-- Tool:   `simp ⊙-ring` proves an equation that holds in every commutative ring of characteristic 2.
--
-- The product is the action of a polynomial on a value: x ⊙ y ≡ apply (coefficients x) y. The actions of two
-- polynomials commute, and every value is what its own coefficients make of 𝟏; the rest follows.
use Rattle.std.specs.Prelude.{◌≡◌, refl, Bool, true, false, ◌≢◌, List, [], ◌∷◌}
use Rattle.std.proofs.Common.{sym, ap, ap₂, ◌∙◌, true≢false}
use Rattle.std.proofs.Math.Bool.{xor}
use Rattle.field.specs.Definition.{F, poly, 𝟎, 𝟏, α, ◌⊕◌, plus, times, scale, z⁸}
use Rattle.field.specs.Definition.{horner, modulo, coefficients, ◌⊙◌}
use Rattle.field.specs.Sum.{xor_false, ⊕_assoc, ⊕_comm, ⊕-left_comm, ⊕_self, ⊕_self-left, ⊕-zero, zero-⊕, ⊕-group}

-- ---- modulo 285 is linear

scale-⊕ : (a : Bool) (x y : F) → scale a (x ⊕ y) ≡ scale a x ⊕ scale a y
unfolding scale
scale-⊕ false x y = sym (zero-⊕ 𝟎)
scale-⊕ true x y = refl

scale-xor : (a b : Bool) (x : F) → scale (xor a b) x ≡ scale a x ⊕ scale b x
unfolding scale xor
scale-xor false false x = sym (zero-⊕ 𝟎)
scale-xor false true x = sym (zero-⊕ x)
scale-xor true false x = sym (⊕-zero x)
scale-xor true true x = sym (⊕_self x)

-- z x before z^8 is replaced: the coefficients one place up, with a below them, and the one that became that of z^8
raise : Bool → F → F
raise a (poly x0 x1 x2 x3 x4 x5 x6 x7) = poly a x0 x1 x2 x3 x4 x5 x6

top : F → Bool
top (poly x0 x1 x2 x3 x4 x5 x6 x7) = x7

horner_raise : (a : Bool) (x : F) → horner a x ≡ raise a x ⊕ scale (top x) z⁸
unfolding horner raise top
horner_raise a (poly x0 x1 x2 x3 x4 x5 x6 x7) = refl

raise-⊕ : (a b : Bool) (x y : F) → raise (xor a b) (x ⊕ y) ≡ raise a x ⊕ raise b y
unfolding raise ◌⊕◌
raise-⊕ a b (poly x0 x1 x2 x3 x4 x5 x6 x7) (poly y0 y1 y2 y3 y4 y5 y6 y7) = refl

top-⊕ : (x y : F) → top (x ⊕ y) ≡ xor (top x) (top y)
unfolding top ◌⊕◌
top-⊕ (poly x0 x1 x2 x3 x4 x5 x6 x7) (poly y0 y1 y2 y3 y4 y5 y6 y7) = refl

horner-⊕ : (a b : Bool) (x y : F) → horner (xor a b) (x ⊕ y) ≡ horner a x ⊕ horner b y
horner-⊕ a b x y = simp (horner_raise, raise-⊕, top-⊕, scale-xor, ⊕-group)

horner-zero : (a : Bool) → horner a 𝟎 ≡ scale a 𝟏
unfolding horner scale ◌⊕◌ 𝟎 𝟏 xor
horner-zero false = refl
horner-zero true = refl

modulo-plus : (p q : List Bool) → modulo (plus p q) ≡ modulo p ⊕ modulo q
unfolding modulo plus
modulo-plus [] q = sym (zero-⊕ _)
modulo-plus (a ∷ p) [] = sym (⊕-zero _)
modulo-plus (a ∷ p) (b ∷ q) = ap (horner (xor a b)) (modulo-plus p q) ∙ horner-⊕ a b (modulo p) (modulo q)

modulo-coefficients : (x : F) → modulo (coefficients x) ≡ x
unfolding modulo coefficients horner scale ◌⊕◌ 𝟎
modulo-coefficients (poly x0 x1 x2 x3 x4 x5 x6 x7) = simp xor_false

-- ---- a polynomial times a value

shift : F → F
shift x = horner false x

shift-⊕ : (x y : F) → shift (x ⊕ y) ≡ shift x ⊕ shift y
unfolding shift
shift-⊕ x y = ap (λ (a : Bool). horner a (x ⊕ y)) (sym (xor_false false)) ∙ horner-⊕ false false x y

shift_zero : shift 𝟎 ≡ 𝟎
unfolding shift scale
shift_zero = horner-zero false

horner-scale : (a : Bool) (x : F) → horner a x ≡ scale a 𝟏 ⊕ shift x
unfolding shift
horner-scale a x =
    ap₂ horner (sym (xor_false a)) (sym (zero-⊕ x)) ∙ horner-⊕ a false 𝟎 x
    ∙ ap (λ (s : F). s ⊕ horner false x) (horner-zero a)

apply : List Bool → F → F
apply [] x = 𝟎
apply (a ∷ p) x = scale a x ⊕ shift (apply p x)

apply-⊕ : (p : List Bool) (x y : F) → apply p (x ⊕ y) ≡ apply p x ⊕ apply p y
unfolding apply
apply-⊕ [] x y = sym (zero-⊕ 𝟎)
apply-⊕ (a ∷ p) x y = rw (scale-⊕ a x y, apply-⊕ p x y, shift-⊕) (simp ⊕-group)

apply-plus : (p q : List Bool) (x : F) → apply (plus p q) x ≡ apply p x ⊕ apply q x
unfolding apply plus
apply-plus [] q x = sym (zero-⊕ _)
apply-plus (a ∷ p) [] x = sym (⊕-zero _)
apply-plus (a ∷ p) (b ∷ q) x = rw (scale-xor a b x, apply-plus p q x, shift-⊕) (simp ⊕-group)

apply-zero : (p : List Bool) → apply p 𝟎 ≡ 𝟎
apply-zero p = ap (apply p) (sym (⊕_self 𝟎)) ∙ apply-⊕ p 𝟎 𝟎 ∙ ⊕_self _

apply-scale : (p : List Bool) (a : Bool) (x : F) → apply p (scale a x) ≡ scale a (apply p x)
unfolding scale
apply-scale p true x = refl
apply-scale p false x = apply-zero p

scale_shift : (a : Bool) (x : F) → scale a (shift x) ≡ shift (scale a x)
unfolding scale
scale_shift true x = refl
scale_shift false x = sym shift_zero

apply_shift : (p : List Bool) (x : F) → apply p (shift x) ≡ shift (apply p x)
unfolding apply
apply_shift [] x = sym shift_zero
apply_shift (a ∷ p) x = ap₂ (λ (s t : F). s ⊕ shift t) (scale_shift a x) (apply_shift p x) ∙ sym (shift-⊕ _ _)

apply_comm : (p q : List Bool) (x : F) → apply p (apply q x) ≡ apply q (apply p x)
unfolding apply
apply_comm [] q x = sym (apply-zero q)
apply_comm (a ∷ p) q x =
    sym (apply-⊕ q _ _ ∙ ap₂ ◌⊕◌ (apply-scale q a x) (apply_shift q _ ∙ ap shift (sym (apply_comm p q x))))

modulo-times : (p q : List Bool) → modulo (times p q) ≡ apply p (modulo q)
unfolding modulo times apply scale shift
modulo-times [] q = refl
modulo-times (false ∷ p) q = ap (horner false) (modulo-times p q) ∙ sym (zero-⊕ _)
modulo-times (true ∷ p) q = modulo-plus q (false ∷ times p q)
    ∙ ap (λ (s : F). modulo q ⊕ horner false s) (modulo-times p q)

modulo_apply : (p : List Bool) → modulo p ≡ apply p 𝟏
unfolding modulo apply
modulo_apply [] = refl
modulo_apply (a ∷ p) = horner-scale a (modulo p) ∙ ap (λ (s : F). scale a 𝟏 ⊕ shift s) (modulo_apply p)

-- ---- the ring laws

⊙_apply : (x y : F) → x ⊙ y ≡ apply (coefficients x) y
unfolding ◌⊙◌
⊙_apply x y = modulo-times (coefficients x) (coefficients y) ∙ ap (apply (coefficients x)) (modulo-coefficients y)

coefficients-⊕ : (x y : F) → coefficients (x ⊕ y) ≡ plus (coefficients x) (coefficients y)
unfolding coefficients plus ◌⊕◌
coefficients-⊕ (poly x0 x1 x2 x3 x4 x5 x6 x7) (poly y0 y1 y2 y3 y4 y5 y6 y7) = refl

pub ⊙-⊕ : (x y z : F) → x ⊙ (y ⊕ z) ≡ x ⊙ y ⊕ x ⊙ z
⊙-⊕ x y z = rw (⊙_apply x (y ⊕ z), ⊙_apply x y, ⊙_apply x z) (apply-⊕ (coefficients x) y z)

pub ⊕-⊙ : (x y z : F) → (x ⊕ y) ⊙ z ≡ x ⊙ z ⊕ y ⊙ z
⊕-⊙ x y z = rw (⊙_apply (x ⊕ y) z, ⊙_apply x z, ⊙_apply y z, coefficients-⊕ x y)
    (apply-plus (coefficients x) (coefficients y) z)

pub ⊙-zero : (x : F) → x ⊙ 𝟎 ≡ 𝟎
⊙-zero x = ⊙_apply x 𝟎 ∙ apply-zero (coefficients x)

pub ⊙-one : (x : F) → x ⊙ 𝟏 ≡ x
⊙-one x = ⊙_apply x 𝟏 ∙ sym (modulo_apply (coefficients x)) ∙ modulo-coefficients x

-- p (q x) = q (p x), with x for what its coefficients make of 𝟏
pub ⊙-left_comm : (x y z : F) → x ⊙ (y ⊙ z) ≡ y ⊙ (x ⊙ z)
⊙-left_comm x y z =
    rw (⊙_apply x (y ⊙ z), ⊙_apply y z, ⊙_apply y (x ⊙ z), ⊙_apply x z) (apply_comm (coefficients x) (coefficients y) z)

pub ⊙_comm : (x y : F) → x ⊙ y ≡ y ⊙ x
⊙_comm x y = ap (λ (s : F). x ⊙ s) (sym (⊙-one y)) ∙ ⊙-left_comm x y 𝟏 ∙ ap (λ (s : F). y ⊙ s) (⊙-one x)

pub ⊙_assoc : (x y z : F) → x ⊙ y ⊙ z ≡ x ⊙ (y ⊙ z)
⊙_assoc x y z = ⊙_comm (x ⊙ y) z ∙ ⊙-left_comm z x y ∙ ap (λ (s : F). x ⊙ s) (⊙_comm z y)

pub zero-⊙ : (x : F) → 𝟎 ⊙ x ≡ 𝟎
zero-⊙ x = ⊙_comm 𝟎 x ∙ ⊙-zero x

pub one-⊙ : (x : F) → 𝟏 ⊙ x ≡ x
one-⊙ x = ⊙_comm 𝟏 x ∙ ⊙-one x

-- sums of products in one order, without pairs of equal terms
pub ruleset ⊙-ring = (
  ⊕_assoc,
  ⊕_comm,
  ⊕-left_comm,
  ⊕_self,
  ⊕_self-left,
  ⊕-zero,
  zero-⊕,
  ⊙_assoc,
  ⊙_comm,
  ⊙-left_comm,
  ⊙-zero,
  zero-⊙,
  ⊙-one,
  one-⊙,
  ⊙-⊕,
  ⊕-⊙,
)

pub one≢zero : 𝟏 ≢ 𝟎
unfolding 𝟎 𝟏
one≢zero e = true≢false (cc)

pub alpha≢zero : α ≢ 𝟎
unfolding 𝟎 α
alpha≢zero e = true≢false (cc)
