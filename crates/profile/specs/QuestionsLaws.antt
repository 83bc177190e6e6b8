-- What the questions let pass.
--
--   passes c l p q     the question q says no to nothing: the caller c does not ask it, or the answer is yes
--   Passes c l p qs    all of the questions qs do so
--   Common n p         .. all that everyone asks, by their names; n is how many bytes the profile p has
--   Own c l p          .. all others
--
-- Proved: who is admitted passes every question, and the profile is the one that was asked about (asked_yes); whoever
-- passes every question is admitted (asked-all); how the questions are put in their order (asked_in_order, next); the
-- profile that is admitted for one caller is admitted for any other whose own questions say no to nothing
-- (admitted_also), and by itself (admitted-profile); what no bytes and some bytes mean (read_none, read_some), and that
-- the length is a byte (read_length). No bytes are answered, whoever asks, as the bytes 8 3 255 14 16 18 24 are
-- (none_means), and are accepted (none-accepted). Seven bytes are answered as they are with an eighth byte of 1
-- (seven_means).
use Rattle.std.specs.Prelude.{ℕ, ◌≤◌, ◌≡◌, refl, Bool, true, false, cond, ◌||◌, List, [], ◌∷◌, ltb, eqb, length, get_or}
use Rattle.std.specs.Prelude.{Ok, Err}
use Rattle.std.proofs.Common.{ap, ap₂, ◌∙◌, arith}
use Rattle.std.proofs.Math.Path.{subst}
use Rattle.profile.specs.declared.Profile.{Profile}
use Rattle.profile.specs.declared.Refusal.{Refusal}
use Rattle.profile.specs.declared.Refusal.TheVariants.{ProfileSize, Subwords, Nested, Capabilities}
use Rattle.profile.specs.declared.Refusal.TheVariants.{EqualCapabilities, Length, FirstRoot, InputSize}
use Rattle.profile.specs.declared.Refusal.TheVariants.{OutputSize, Subword}
use Rattle.profile.specs.declared.questions.Caller.{Caller}
use Rattle.profile.specs.declared.questions.Caller.TheVariants.{Card}
use Rattle.profile.specs.declared.questions.Lent.{Lent}
use Rattle.profile.specs.Definition.{Parsed, block_size, data_size}
use Rattle.profile.specs.Questions.{Question, questions, put, put_all, asked, read, admitted, profile_of}
use Rattle.profile.specs.Questions.{lent, encodes, decodes, fetches, extracts, good_subwords, good_nested}
use Rattle.profile.specs.Questions.{good_capabilities, good_rising, good_length, good_root, good_size}
use Rattle.profile.specs.Questions.{fields, factory}
use Rattle.profile.specs.Questions as question

abbrev pub passes : Caller → Lent → Profile → Question → Bool
passes c l p q = cond (q.asks c) (q.good l p) true

abbrev pub Passes : Caller → Lent → Profile → List Question → Type 0
Passes c l p [] = Unit
Passes c l p (q ∷ qs) = (passes c l p q ≡ true) × Passes c l p qs

-- the questions that everyone asks are answered by yes
pub record Common (n : ℕ) (p : Profile) : Type 0 where
  pub profile_size : good_size n ≡ true
  pub subwords : good_subwords p ≡ true
  pub nested : good_nested p ≡ true
  pub capabilities : good_capabilities p ≡ true
  pub length_above : good_length p ≡ true
  pub root_below : good_root p ≡ true

-- the others say no to nothing
pub record Own (c : Caller) (l : Lent) (p : Profile) : Type 0 where
  pub rising : passes c l p question.rising ≡ true
  pub input_data : passes c l p question.input_data ≡ true
  pub input_block : passes c l p question.input_block ≡ true
  pub output_block : passes c l p question.output_block ≡ true
  pub output_data : passes c l p question.output_data ≡ true
  pub subword_below : passes c l p question.subword_below ≡ true

pub card_own : (l : Lent) (p : Profile) → Own Card l p
card_own l p = record {
  rising = refl;
  input_data = refl;
  input_block = refl;
  output_block = refl;
  output_data = refl;
  subword_below = refl;
}

-- two facts as one
pair : {A B : Type 0} → A → B → A × B
pair a b = (a, b)

-- one question
put_yes : (asks good : Bool) (q : Refusal) (a : Parsed) (r : Profile) → put asks good q a ≡ Ok r
    → (a ≡ Ok r) × (cond asks good true ≡ true)
put_yes false good q (Ok p) r e = (e, refl)
put_yes true true q (Ok p) r e = (e, refl)
put_yes true false q (Ok p) r e = let z : ◌≡◌ {A = ℕ} 0 1 = cc in absurd (omega arith)
put_yes asks good q (Err s) r e = let z : ◌≡◌ {A = ℕ} 0 1 = cc in absurd (omega arith)

module _ (c : Caller) (l : Lent) (p : Profile) where
  all_yes : (qs : List Question) (a : Parsed) (r : Profile) → put_all c l p qs a ≡ Ok r
      → (a ≡ Ok r) × Passes c l p qs
  all_yes [] a r e = (e, tt)
  all_yes (q ∷ qs) a r e =
      let (before, rest) = all_yes qs (put (q.asks c) (q.good l p) q.refusal a) r e in
      let (first, now) = put_yes (q.asks c) (q.good l p) q.refusal a r before in
      (first, (now, rest))

  pub asked_yes : (r : Profile) → asked c l p ≡ Ok r → (p ≡ r) × Common l.profile r × Own c l r
  unfolding asked
  asked_yes r e =
      let (all, (q1, (q2, (q3, (q4, (q15, (q5, (q14, (data_in, (block_in, (block_out, (data-out, (q10, _))))))))))))) =
      all_yes questions (Ok p) r e in
      let same : p ≡ r = cc in (
        same,
        subst (Common l.profile) same
            (record {
              profile_size = q1;
              subwords = q2;
              nested = q3;
              capabilities = q4;
              length_above = q5;
              root_below = q14;
            }),
        subst (Own c l) same (record {
          rising = q15;
          input_data = data_in;
          input_block = block_in;
          output_block = block_out;
          output_data = data-out;
          subword_below = q10;
        }),
      )

  all-passed : (qs : List Question) → Passes c l p qs → put_all c l p qs (Ok p) ≡ Ok p
  all-passed [] h = refl
  all-passed (q ∷ qs) h = rw h.0 (all-passed qs h.1)

  pub asked-all : Common l.profile p → Own c l p → asked c l p ≡ Ok p
  unfolding asked
  asked-all common own =
      all-passed questions
      (pair common.profile_size
      (pair common.subwords
      (pair common.nested
      (pair common.capabilities
      (pair own.rising
      (pair common.length_above
      (pair common.root_below
      (pair own.input_data
      (pair own.input_block
      (pair own.output_block
      (pair own.output_data
      (pair own.subword_below tt))))))))))))

-- one question more: b is what was answered, by other names for who asks it and for what is good
pub next : {a b before : Parsed} {s t g h : Bool} (q : Refusal)
    → b ≡ put s g q a → s ≡ t → g ≡ h → a ≡ before → b ≡ put t h q before
next {a} {b} {before} {s} {t} {g} {h} q e asks good earlier =
    e ∙ ap₂ (λ s g. put s g q a) asks good ∙ ap (put t h q) earlier

-- the questions as they are put, one after the other
pub asked_in_order : (c : Caller) (l : Lent) (p : Profile) → asked c l p ≡
    put (fetches c) (ltb l.subword p.subwords) Subword
    (put (extracts c) (eqb l.output (data_size p)) OutputSize
    (put (encodes c || decodes c) (eqb l.output (block_size p)) OutputSize
    (put ((decodes c || fetches c) || extracts c) (eqb l.input (block_size p)) InputSize
    (put (encodes c) (eqb l.input (data_size p)) InputSize
    (put true (good_root p) FirstRoot
    (put true (good_length p) Length
    (put (encodes c) (good_rising p) EqualCapabilities
    (put true (good_capabilities p) Capabilities
    (put true (good_nested p) Nested
    (put true (good_subwords p) Subwords
    (put true (good_size l.profile) ProfileSize (Ok p))))))))))))
unfolding asked
asked_in_order c l p = refl

module _ (c : Caller) (b : List ℕ) (d o i : ℕ) (p : Profile) (e : admitted c b d o i ≡ Ok p) where
  pub admitted-read : read b ≡ p
  admitted-read = (asked_yes c (lent b d o i) (read b) p e).0

  -- the caller k, who lends s bytes of input and t of output and names the subword j
  pub admitted_also : (k : Caller) (s t j : ℕ) → Own k (lent b s t j) p → admitted k b s t j ≡ Ok p
  admitted_also k s t j own =
      let (same, common, _) = asked_yes c (lent b d o i) (read b) p e in
      ap (asked k (lent b s t j)) same ∙ asked-all k (lent b s t j) p common own

  pub admitted-profile : profile_of b ≡ Ok p
  admitted-profile = admitted_also Card 0 0 0 (card_own (lent b 0 0 0) p)

-- ---- what the bytes of a profile mean

pub read_none : (b : List ℕ) → length b ≡ 0 → factory ≡ read b
read_none [] e = refl
read_none (x ∷ b) e = absurd (omega arith)

pub read_some : (b : List ℕ) → (length b ≡ 0 → ⊥) → fields b ≡ read b
read_some [] h = absurd (h refl)
read_some (x ∷ b) h = refl

-- byte 2 is the length, if there is one
pub read_length : (b : List ℕ) → get_or b 2 0 ≤ 255 → (read b).length ≤ 255
read_length [] h = omega arith
read_length (x ∷ b) h = h

-- no bytes stand for seven
pub none_means : (c : Caller) (d o i : ℕ)
    → admitted c [] d o i ≡ admitted c (8 ∷ 3 ∷ 255 ∷ 14 ∷ 16 ∷ 18 ∷ 24 ∷ []) d o i
unfolding asked
none_means c d o i = refl

-- an eighth byte of 1 says what seven bytes say
pub seven_means : (c : Caller) (m v n t0 t1 t2 t3 d o i : ℕ)
    → admitted c (m ∷ v ∷ n ∷ t0 ∷ t1 ∷ t2 ∷ t3 ∷ []) d o i
    ≡ admitted c (m ∷ v ∷ n ∷ t0 ∷ t1 ∷ t2 ∷ t3 ∷ 1 ∷ []) d o i
unfolding asked
seven_means c m v n t0 t1 t2 t3 d o i = refl

pub none-accepted : profile_of [] ≡ Ok factory
unfolding asked
none-accepted = refl
