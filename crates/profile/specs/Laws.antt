-- Capabilities past the last, a byte that is there, tests with `!`, and tests for the number 0.
--
-- Proved: the answer with the number 0 is no refusal (gives-accepted), and one with another number is (keeps-refused).
use Rattle.std.specs.Prelude.{ℕ, zero, suc, ◌≤◌, ◌<◌, ◌≡◌, refl, Bool, true, false, not, List, length, get_or}
use Rattle.std.specs.Prelude.{Ok, Err}
use Rattle.std.proofs.Common.{sym, ap, ◌∙◌, arith, get_or-set_same}
use Rattle.std.proofs.lemmas.List.{set-get_or}
use Rattle.profile.specs.declared.Profile.{Profile}
use Rattle.profile.specs.declared.Refusal.{Refusal}
use Rattle.profile.specs.declared.Refusal.TheVariants.{ProfileSize, Subwords, Nested, Capabilities}
use Rattle.profile.specs.declared.Refusal.TheVariants.{EqualCapabilities, Length, FirstRoot, InputSize}
use Rattle.profile.specs.declared.Refusal.TheVariants.{OutputSize, Unsettled, NotCodeword, Subword}
use Rattle.profile.specs.Definition.{Answer, capability, number_of, answer_number, unless_refused}

-- a test with `!`
pub unless : (b : Bool) → not b ≡ true → b ≡ false
unless true e = sym e
unless false e = refl

pub meets : (b : Bool) → not b ≡ false → b ≡ true
meets true e = refl
meets false e = sym e

pub capability-past : (p : Profile) (r : ℕ) → 4 ≤ r → capability p r ≡ 0
capability-past p zero h = absurd (omega arith)
capability-past p (suc zero) h = absurd (omega arith)
capability-past p (suc (suc zero)) h = absurd (omega arith)
capability-past p (suc (suc (suc zero))) h = absurd (omega arith)
capability-past p (suc (suc (suc (suc r)))) h = refl

-- what stands for a byte that is missing is no matter
pub byte_there : (b : List ℕ) (i x y : ℕ) → i < length b → get_or b i x ≡ get_or b i y
byte_there b i x y h =
    sym (get_or-set_same b i (get_or b i x) y h) ∙ ap (λ (l : List ℕ). get_or l i y) (set-get_or b i x)

-- ---- tests for the number 0

-- a refusal has a number
numbered : (q : Refusal) → number_of q ≡ 0 → ⊥
numbered ProfileSize e = omega arith
numbered Subwords e = omega arith
numbered Nested e = omega arith
numbered Capabilities e = omega arith
numbered EqualCapabilities e = omega arith
numbered Length e = omega arith
numbered FirstRoot e = omega arith
numbered InputSize e = omega arith
numbered OutputSize e = omega arith
numbered (Unsettled r) e = omega arith
numbered NotCodeword e = omega arith
numbered Subword e = omega arith

module _ (x o : List ℕ) where
  pub gives-accepted : (a : Answer) → answer_number a ≡ 0 → x ≡ unless_refused a x o
  gives-accepted (Ok tt) e = refl
  gives-accepted (Err q) e = absurd (numbered q e)

  pub keeps-refused : (a : Answer) → (answer_number a ≡ 0 → ⊥) → o ≡ unless_refused a x o
  keeps-refused (Ok tt) e = absurd (e refl)
  keeps-refused (Err q) e = refl
