-- Any first root α^f from the first root α: a word has, with the first root α^f, the syndromes which it has with the
-- first root α once each symbol is multiplied by its location to the power f − 1. So a pattern is sought with the first
-- root α, and each of its changes is then multiplied by its location to the power 1 − f (FORMAT 6.13).
--
--   multiplier f p           X_p^(f−1), the column multiplier of position p, for f = 0 too
--   inverse_multiplier f p   X_p^(1−f)
--   twist f e                each symbol of e times its multiplier; untwist f e: times the inverse one
--   untwisted f n o          a pattern of n symbols untwisted, if there is one
--
-- Proved: twisting and untwisting undo one another (twist-untwist, untwist-twist); twisting makes no symbol zero
-- (twist-zero) and keeps how many are not (weight-twist, weight-untwist); the syndromes are as said (syndrome-twist);
-- the inverse multiplier as a power of α (inverse_multiplier-is).
use Rattle.std.specs.Prelude.{ℕ, zero, suc, ◌+◌, ◌-◌, ◌*◌, ◌≤◌, ◌≡◌, refl, ◌≢◌, List}
use Rattle.std.proofs.Common.{sym, ap, ap₂, ◌∙◌, mul_comm, arith}
use Rattle.std.proofs.Math.Path.{fun_ext}
use Rattle.std.proofs.Math.Logic.{by_cases}
use Rattle.std.proofs.Math.Option.{Option, none, some}
use Rattle.field.specs.Field.{F, 𝟎, 𝟏, α, ◌⊙◌, ◌≟◌, ⊙_assoc, ⊙-one, one-⊙, ⊙-zero, ⊙-ring}
use Rattle.field.proofs.Field.{⊙_nonzero, ⊙-factor}
use Rattle.field.specs.Field.{pow, pow-one, pow-add, pow_mul, pow-⊙, one-pow}
use Rattle.field.proofs.Field.{pow_nonzero, power_255, power_nonzero}
use Rattle.series.specs.Sum.{sum_cong}
use Rattle.series.specs.Series.{Series}
use Rattle.series.specs.Value.{value-is}
use Rattle.series.specs.Word.{entry, word, weight, weight-none, weight_skip, weight-take}
use Rattle.code.specs.Word.{root, syndrome}
use Rattle.code.specs.Systematic.{syndrome-is}
use Rattle.settling.specs.Locator.{X, W, X-W, W_nonzero}

unfoldable pub multiplier : ℕ → ℕ → F
multiplier f p = pow (X p) f ⊙ W p

unfoldable pub inverse_multiplier : ℕ → ℕ → F
inverse_multiplier f p = X p ⊙ pow (W p) f

unfoldable pub twist : ℕ → Series → Series
twist f e p = multiplier f p ⊙ e p

unfoldable pub untwist : ℕ → Series → Series
untwist f e p = inverse_multiplier f p ⊙ e p

abbrev pub untwisted : ℕ → ℕ → Option (List F) → Option (List F)
untwisted f n none = none
untwisted f n (some w) = some (word n (untwist f (entry w)))

-- ---- multipliers

multiplier_nonzero : (f p : ℕ) → multiplier f p ≢ 𝟎
unfolding multiplier
multiplier_nonzero f p = ⊙_nonzero _ _ (pow_nonzero (X p) f (power_nonzero p)) (W_nonzero p)

powers_cancel : (f p : ℕ) → pow (X p) f ⊙ pow (W p) f ≡ 𝟏
powers_cancel f p = sym (pow-⊙ (X p) (W p) f) ∙ ap (λ x. pow x f) (X-W p) ∙ one-pow f

multipliers : (f p : ℕ) → inverse_multiplier f p ⊙ multiplier f p ≡ 𝟏
unfolding multiplier inverse_multiplier
multipliers f p =
    let e : X p ⊙ pow (W p) f ⊙ (pow (X p) f ⊙ W p) ≡ X p ⊙ W p ⊙ (pow (X p) f ⊙ pow (W p) f) = simp ⊙-ring in
    e ∙ ap₂ ◌⊙◌ (X-W p) (powers_cancel f p) ∙ ⊙-one 𝟏

-- X_p^255 is 1, so that X_p^(1−f) is X_p^(256−f)
pub inverse_multiplier-is : (f p : ℕ) → f ≤ 256 → inverse_multiplier f p ≡ pow α (p * (256 - f))
unfolding inverse_multiplier
inverse_multiplier-is f p h =
    let e : 256 - f + f ≡ 1 + 255 = omega arith in
    let all : pow (X p) (256 - f) ⊙ pow (X p) f ≡ X p =
    sym (pow-add (X p) (256 - f) f) ∙ ap (pow (X p)) e ∙ pow-add (X p) 1 255
    ∙ ap₂ ◌⊙◌ (pow-one (X p)) whole ∙ ⊙-one _ in
    ap (λ x. x ⊙ pow (W p) f) (sym all)
    ∙ ⊙_assoc _ _ _
    ∙ ap (λ x. pow (X p) (256 - f) ⊙ x) (powers_cancel f p)
    ∙ ⊙-one _
    ∙ sym (pow_mul α p (256 - f))
  where
    whole : pow (X p) 255 ≡ 𝟏
    whole = sym (pow_mul α p 255) ∙ ap (pow α) (mul_comm p 255) ∙ pow_mul α 255 p ∙ ap (λ x. pow x p) power_255
        ∙ one-pow p

-- ---- words

pub twist-untwist : (f : ℕ) (e : Series) → twist f (untwist f e) ≡ e
unfolding twist untwist
twist-untwist f e = fun_ext (λ p.
    let s : multiplier f p ⊙ (inverse_multiplier f p ⊙ e p) ≡ inverse_multiplier f p ⊙ multiplier f p ⊙ e p =
    simp ⊙-ring in
    s ∙ ap (λ t. t ⊙ e p) (multipliers f p) ∙ one-⊙ _)

pub untwist-twist : (f : ℕ) (e : Series) → untwist f (twist f e) ≡ e
unfolding twist untwist
untwist-twist f e = fun_ext (λ p.
    sym (⊙_assoc _ _ _) ∙ ap (λ t. t ⊙ e p) (multipliers f p) ∙ one-⊙ _)

pub twist-zero : (f : ℕ) (e : Series) (p : ℕ) → twist f e p ≡ 𝟎 → e p ≡ 𝟎
unfolding twist
twist-zero f e p = ⊙-factor (multiplier f p) (e p) (multiplier_nonzero f p)

pub weight-twist : (f : ℕ) (e : Series) (n : ℕ) → weight n (twist f e) ≡ weight n e
unfolding twist
weight-twist f e zero = weight-none _ ∙ sym (weight-none _)
weight-twist f e (suc n) = by_cases (e n ≟ 𝟎)
    (λ z. weight_skip n _ (rw z (⊙-zero _)) ∙ weight-twist f e n ∙ sym (weight_skip n _ z))
    (λ z. weight-take n _ (⊙_nonzero _ _ (multiplier_nonzero f n) z) ∙ ap suc (weight-twist f e n)
    ∙ sym (weight-take n _ z))

pub weight-untwist : (f : ℕ) (e : Series) (n : ℕ) → weight n (untwist f e) ≡ weight n e
weight-untwist f e n = sym (weight-twist f (untwist f e) n) ∙ ap (weight n) (twist-untwist f e)

pub untwist_cong : (f : ℕ) (e g : Series) (p : ℕ) → e p ≡ g p → untwist f e p ≡ untwist f g p
unfolding untwist
untwist_cong f e g p = ap (λ y. inverse_multiplier f p ⊙ y)

pub untwist-at : (f : ℕ) (e : Series) (p : ℕ) → untwist f e p ≡ inverse_multiplier f p ⊙ e p
unfolding untwist
untwist-at f e p = refl

-- ---- syndromes

-- the power p of root j: with the first root α^f it is the multiplier times what it is with the first root α
power-twist : (f j p : ℕ) → pow (root f j) p ≡ multiplier f p ⊙ pow (root 1 j) p
unfolding root multiplier
power-twist f j p =
    turned (f + j)
    ∙ pow-add (X p) f j
    ∙ sym (ap (λ t. pow (X p) f ⊙ W p ⊙ t)
    (turned (1 + j) ∙ pow-add (X p) 1 j ∙ ap (λ t. t ⊙ pow (X p) j) (pow-one (X p)))
    ∙ last (pow (X p) f) (X p) (W p) (pow (X p) j) (X-W p))
  where
    turned : (k : ℕ) → pow (pow α k) p ≡ pow (X p) k
    turned k = sym (pow_mul α k p) ∙ ap (pow α) (mul_comm k p) ∙ pow_mul α p k

    last : (a x w b : F) → x ⊙ w ≡ 𝟏 → a ⊙ w ⊙ (x ⊙ b) ≡ a ⊙ b
    last a x w b e =
        let s : a ⊙ w ⊙ (x ⊙ b) ≡ x ⊙ w ⊙ (a ⊙ b) = simp ⊙-ring in
        s ∙ rw e (one-⊙ _)

pub syndrome-twist : (f n : ℕ) (e : Series) (j : ℕ) → syndrome 1 n (twist f e) j ≡ syndrome f n e j
unfolding twist
syndrome-twist f n e j =
    syndrome-is 1 n (twist f e) j
    ∙ value-is n _ (root 1 j)
    ∙ sum_cong n _ _ (λ p l. sorted (multiplier f p) (e p) _ ∙ ap (λ t. e p ⊙ t) (sym (power-twist f j p)))
    ∙ sym (syndrome-is f n e j ∙ value-is n e (root f j))
  where
    sorted : (m y r : F) → m ⊙ y ⊙ r ≡ y ⊙ (m ⊙ r)
    sorted m y r = simp ⊙-ring
