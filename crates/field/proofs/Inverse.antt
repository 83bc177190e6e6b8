-- The inverse, and what follows from it: F is a field.
--
-- Proved: x ⊙ inv x ≡ 𝟏 for x ≢ 𝟎; products cancel, and one is 𝟎 only if a factor is; the powers of α repeat after 255
-- and not before; products and inverses by logarithms.
use Rattle.std.specs.Prelude.{◌≡◌, refl, ◌≢◌, ℕ, zero, suc, ◌+◌, ◌*◌, ◌-◌, ◌/◌, ◌%◌, ◌<◌}
use Rattle.std.proofs.Common.{ap, ap₂, sym, ◌∙◌, mul_comm, div-add-mod', add-sub_of_le, le_of_lt}
use Rattle.field.specs.Definition.{F, 𝟎, 𝟏, α, ◌⊕◌, plus, times, scale, z⁸, horner, modulo}
use Rattle.field.specs.Definition.{coefficients, ◌⊙◌, pow, inv, log}
use Rattle.field.specs.Sum.{⊕-equal}
use Rattle.field.specs.Product.{⊙_assoc, ⊙_comm, one-⊙, ⊙-zero, zero-⊙, one≢zero, alpha≢zero}
use Rattle.field.specs.Power.{pow-zero, pow-suc, pow-add, pow_mul, one-pow}
use Rattle.field.proofs.Log.{log_lt, pow-log, log-pow}

pub power_255 : pow α 255 ≡ 𝟏
unfolding pow 𝟎 𝟏 α ◌⊙◌ times plus modulo horner scale z⁸ ◌⊕◌ coefficients mathlib.Core.Bool.xor
power_255 = refl

power_multiple : (q : ℕ) → pow α (q * 255) ≡ 𝟏
power_multiple q = ap (pow α) (mul_comm q 255) ∙ pow_mul α 255 q ∙ ap (λ (s : F). pow s q) power_255 ∙ one-pow q

pub pow_255 : (x : F) → x ≢ 𝟎 → pow x 255 ≡ 𝟏
pow_255 x h = ap (λ (s : F). pow s 255) (sym (pow-log x h)) ∙ sym (pow_mul α (log x) 255) ∙ power_multiple (log x)

-- ---- the inverse

pub mul-inv : (x : F) → x ≢ 𝟎 → x ⊙ inv x ≡ 𝟏
unfolding inv
mul-inv x h = sym (pow-suc x 254) ∙ pow_255 x h

pub inv_mul : (x : F) → x ≢ 𝟎 → inv x ⊙ x ≡ 𝟏
inv_mul x h = ⊙_comm (inv x) x ∙ mul-inv x h

pub inv-zero : inv 𝟎 ≡ 𝟎
unfolding inv
inv-zero = pow-suc 𝟎 253 ∙ zero-⊙ (pow 𝟎 253)

pub ⊙_cancel : (x : F) {y z : F} → x ≢ 𝟎 → x ⊙ y ≡ x ⊙ z → y ≡ z
⊙_cancel x {y} {z} h e = sym (undo y) ∙ ap (λ (s : F). inv x ⊙ s) e ∙ undo z
  where
    undo : (a : F) → inv x ⊙ (x ⊙ a) ≡ a
    undo a = sym (⊙_assoc (inv x) x a) ∙ ap (λ (s : F). s ⊙ a) (inv_mul x h) ∙ one-⊙ a

-- the inverse is known by its product
pub inv_unique : (x y : F) → x ⊙ y ≡ 𝟏 → inv x ≡ y
inv_unique x y e = ⊙_cancel x nonzero (mul-inv x nonzero ∙ sym e)
  where
    nonzero : x ≢ 𝟎
    nonzero z = one≢zero (sym e ∙ ap (λ (s : F). s ⊙ y) z ∙ zero-⊙ y)

-- a product is zero only if a factor is
pub ⊙-factor : (x y : F) → x ≢ 𝟎 → x ⊙ y ≡ 𝟎 → y ≡ 𝟎
⊙-factor x y h e = ⊙_cancel x h (e ∙ sym (⊙-zero x))

pub ⊙_nonzero : (x y : F) → x ≢ 𝟎 → y ≢ 𝟎 → x ⊙ y ≢ 𝟎
⊙_nonzero x y h k e = k (⊙-factor x y h e)

pub inv_nonzero : (x : F) → x ≢ 𝟎 → inv x ≢ 𝟎
inv_nonzero x h e = one≢zero (sym (mul-inv x h) ∙ ap (λ (s : F). x ⊙ s) e ∙ ⊙-zero x)

pub pow_nonzero : (x : F) (n : ℕ) → x ≢ 𝟎 → pow x n ≢ 𝟎
pow_nonzero x zero h e = one≢zero (sym (pow-zero x) ∙ e)
pow_nonzero x (suc n) h e = ⊙_nonzero x (pow x n) h (pow_nonzero x n h) (sym (pow-suc x n) ∙ e)

-- ---- powers of α

pub power_nonzero : (k : ℕ) → pow α k ≢ 𝟎
power_nonzero k = pow_nonzero α k alpha≢zero

pub power_inj : (i j : ℕ) → i < 255 → j < 255 → pow α i ≡ pow α j → i ≡ j
power_inj i j hi hj e = sym (log-pow i hi) ∙ ap log e ∙ log-pow j hj

pub power_apart : (i j : ℕ) → i < 255 → j < 255 → i ≢ j → pow α i ⊕ pow α j ≢ 𝟎
power_apart i j hi hj ne e = ne (power_inj i j hi hj (⊕-equal (pow α i) (pow α j) e))

-- exponents count modulo 255
pub power_mod : (k : ℕ) → pow α (k % 255) ≡ pow α k
power_mod k =
    sym (one-⊙ (pow α (k % 255)))
    ∙ ap (λ (s : F). s ⊙ pow α (k % 255)) (sym (power_multiple (k / 255)))
    ∙ sym (pow-add α (k / 255 * 255) (k % 255))
    ∙ ap (pow α) (div-add-mod' k 255)

-- ---- products and inverses by logarithms

pub log-product : (x y : F) → x ≢ 𝟎 → y ≢ 𝟎 → pow α (log x + log y) ≡ x ⊙ y
log-product x y h k = pow-add α (log x) (log y) ∙ ap₂ ◌⊙◌ (pow-log x h) (pow-log y k)

pub log_inverse : (x : F) → x ≢ 𝟎 → pow α (255 - log x) ≡ inv x
log_inverse x h =
    sym (inv_unique x (pow α (255 - log x))
    (ap (λ (s : F). s ⊙ pow α (255 - log x)) (sym (pow-log x h))
    ∙ sym (pow-add α (log x) (255 - log x))
    ∙ ap (pow α) (add-sub_of_le (le_of_lt (log_lt x)))
    ∙ power_255))
