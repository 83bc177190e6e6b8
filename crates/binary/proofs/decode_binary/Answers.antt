-- The questions one by one, then the answer.
use Rattle.std.proofs.Common.{ap, arith, length, sym, List, ℕ, ⊎_elim, ◌∙◌, ◌≡◌}
use Rattle.binary.specs.Definition.{Read, reading, answer_to, word_in}
use Rattle.binary.specs.Reading.{reading-short, reading-long, reading_output, reading-symbols, reading-bits}
use Rattle.binary.specs.Reading.{bits_of}
use Rattle.binary.proofs.decode_binary.Goals as goal

-- what reading comes to is what is answered and written
told : (y o : List ℕ) (r : Read) → reading y (length o) ≡ r
    → record {
      answer : answer_to r ≡ answer_to (reading y (length o));
      word : word_in r o ≡ word_in (reading y (length o)) o;
    }
told y o r is = record { answer = sym (ap answer_to is); word = sym (ap (λ (r : Read). word_in r o) is) }

pub returns-then-n-eq0 : goal.returns-then-n-eq0
returns-then-n-eq0 c =
    told c.args.subword.now c.args.out.now _
    (⊎_elim (reading-short _ _) (λ h. reading-long _ _ h.1) c.then-n-eq0.either)

pub returns-then-out-n : goal.returns-then-out-n
returns-then-out-n c =
    told c.args.subword.now c.args.out.now _
    (reading_output _ _ (omega arith) (omega arith) c.if-out-n.true)

pub returns-then-not-is_binary : goal.returns-then-not-is_binary
returns-then-not-is_binary c =
    told c.args.subword.now c.args.out.now _
    (reading-symbols _ _ (omega arith) (omega arith) c.if-out-n.false
    (sym c.is_binary.ensures ∙ c.if-not-is_binary.true))

pub correct-requires : goal.correct-requires
correct-requires c = (
  omega arith,
  c.if-out-n.false,
  bits_of _ (sym c.is_binary.ensures ∙ c.if-not-is_binary.false),
)

pub returns : goal.returns
returns c =
    let is = told c.args.subword.now c.args.out.now _
    (reading-bits _ _ (omega arith) (omega arith) c.if-out-n.false
    (sym c.is_binary.ensures ∙ c.if-not-is_binary.false)) in record {
      answer = c.correct.ensures.answer ∙ is.answer;
      word = c.correct.ensures.word ∙ is.word;
    }
