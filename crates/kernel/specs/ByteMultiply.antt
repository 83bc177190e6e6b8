-- Products by the bits of one factor, from the top, and the doubles of the other.
--
--   Times a m p   p is m times a, as field values
--
-- Proved: a bit times a byte (pick_lt, of_pick); the first bit and the next one, which goes with half the double
-- (times-first, times_more).
use Rattle.std.specs.Prelude.{ℕ, ◌*◌, ◌/◌, ◌%◌, ◌<◌, ◌≡◌}
use Rattle.std.proofs.Common.{sym, ap, ap₂, ◌∙◌, one-mul, zero-mul, arith}
use Rattle.std.proofs.Math.Decide.{ℕ_discrete}
use Rattle.field.specs.Field.{F, α, ◌⊕◌, ◌⊙◌, of, of_zero, of_one, of_two, zero-⊕, zero-⊙, one-⊙, ⊙-ring}
use Rattle.field.proofs.Field.{of_parts}

abbrev pub Times : ℕ → ℕ → ℕ → Type 0
Times a m p = of p ≡ of m ⊙ of a

pub pick_lt : (t a : ℕ) → t < 2 → a < 256 → t * a < 256
pick_lt t a h l = go (ℕ_discrete t 0)
  where
    go : Dec (t ≡ 0) → t * a < 256
    go (yes e) = rw (e, zero-mul) (omega arith)
    go (no n) = let e : t ≡ 1 = omega arith in rw (e, one-mul) l

pub of_pick : (t a : ℕ) → t < 2 → of (t * a) ≡ of t ⊙ of a
of_pick t a h = go (ℕ_discrete t 0)
  where
    go : Dec (t ≡ 0) → of (t * a) ≡ of t ⊙ of a
    go (yes e) = rw (e, zero-mul, of_zero) (sym (zero-⊙ (of a)))
    go (no n) = let e : t ≡ 1 = omega arith in rw (e, one-mul, of_one) (sym (one-⊙ (of a)))

pub times-first : (a m p t : ℕ) → of p ≡ of 0 ⊕ of t ⊙ of a → t ≡ m → Times a m p
times-first a m p t e h = e ∙ rw (h, of_zero) (zero-⊕ _)

pub times_more : (a d k m p q t : ℕ) → m < 256 → k ≡ m / 2 → t ≡ m % 2 → of d ≡ α ⊙ of a → Times d k p
    → of q ≡ of p ⊕ of t ⊙ of a
    → Times a m q
times_more a d k m p q t l high low twice h e =
    e
    ∙ ap₂ (λ (s : F) (b : ℕ). s ⊕ of b ⊙ of a) (h ∙ ap₂ (λ (b : ℕ) (s : F). of b ⊙ s) high twice) low
    ∙ shape (of (m / 2)) (of (m % 2)) (of a)
    ∙ ap (λ (s : F). (of (m % 2) ⊕ s ⊙ of (m / 2)) ⊙ of a) (sym of_two)
    ∙ ap (λ (s : F). s ⊙ of a) (sym (of_parts 1 m (omega arith) l))
  where
    shape : (h b x : F) → h ⊙ (α ⊙ x) ⊕ b ⊙ x ≡ (b ⊕ α ⊙ h) ⊙ x
    shape h b x = simp ⊙-ring
