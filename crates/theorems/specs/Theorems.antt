-- The headlines, one theorem each, about what `encode`, `decode` and `extract` promise. A list is the bytes of a
-- buffer: b a profile, d data, c a block that is written, y one that is received, o what an output held before.
--
--   Bytes l           every entry is a byte
--   Written p d c     the block c is a codeword of the profile p with the data d, and the only one
--   Trip b d c y o e t   data d are written to c, and y is read to e, which has o bytes: t is what was answered, and if
--                     y is c but for changes that can be restored, e is d
--   Both f g b y o e k t   y is read to e in the form f and to k in the form g: t is what was handed back, and the two
--                     are alike
--   SumOf f b y e i first k S q t   y is read to e in the form f, and the value of the error at position q of subword i
--                     is taken in both ways: where the subword was corrected by the k syndromes S, and the received and
--                     the corrected symbol differ, both are their sum, and neither divisor is zero
--
-- Proved: what a writer accepts has rising capabilities, and what is written is the one codeword with the data
-- (written_one). Data in a codeword that is changed within the condition of FORMAT 6.11 and read are the same, byte for
-- byte, whatever the profile is that a reader accepts (round_trip), so those that `encode` writes (trip). Two readings
-- of the same bytes end alike (both). Both ways to the value of an error, from the state that a report holds, give what
-- was changed (sum_of).
use Rattle.std.specs.Prelude.{ℕ, zero, suc, ◌+◌, ◌*◌, ◌<◌, ◌≡◌, refl, ◌≢◌, List, [], ◌∷◌, map, length, get_or, Ok, Err}
use Rattle.std.proofs.Common.{sym, ap, ◌∙◌, subst, arith}
use Rattle.std.proofs.lemmas.List.{length-map}
use Rattle.field.specs.Field.{F, ◌⊕◌, ⊕-equal, of, byte, byte_lt, val}
use Rattle.series.specs.Series.{Series, ⊞-at}
use Rattle.series.specs.Shift.{cut, cut_low}
use Rattle.series.specs.Array.{bytes, bytes-entry, bytes_word, word_bytes}
use Rattle.profile.specs.declared.Profile.{Profile}
use Rattle.profile.specs.declared.questions.Caller.TheVariants.{Encoder, Card}
use Rattle.profile.specs.Definition.{Parsed, capability, first-root, answer_of, block_size, data_size}
use Rattle.profile.specs.Questions.{profile_of, writing}
use Rattle.profile.specs.QuestionsLaws.{admitted-profile}
use Rattle.profile.specs.Valid.{Valid, Rising, admitted-valid, capability-most, writing-passed, writing-rising}
use Rattle.code.specs.Word.{syndrome}
use Rattle.code.specs.Definition.{syndrome_of, subword, Encodes}
use Rattle.code.specs.Encoding.{encoding-some}
use Rattle.block.specs.Gather.{data-written}
use Rattle.solver.specs.declared.Form.{Form}
use Rattle.solver.specs.Solver.{form_of, state_of, Is}
use Rattle.error_values.specs.Definition.{evaluator_value, auxiliary_value}
use Rattle.error_values.specs.Theorems.{ended_gives, Gives as ErrorValue}
use Rattle.stages.specs.declared.report.Verdict.TheVariants.{Corrected}
use Rattle.stages.specs.declared.report.Line.{Line}
use Rattle.stages.specs.Report.{Has}
use Rattle.staged_decoding.specs.Restorable.{Restorable}
use Rattle.staged_decoding.specs.Restoring.{restoring-bytes}
use Rattle.encoder.specs.Definition.{found, written}
use Rattle.encoder.specs.Laws.{written_is}
use Rattle.decoder.specs.declared.prepared.Reading.{Reading}
use Rattle.decoder.specs.Definition.{reading, extraction, answer_to, data_in, report_of, Gives}
use Rattle.decoder.specs.Theorems.{extraction-is, changes, read_solved, Alike, alike}
use Rattle.theorems.specs.declared.Trip.{Trip as Answers}
use Rattle.theorems.specs.declared.Pair.{Pair}
use Rattle.theorems.specs.declared.Values.{Values}

abbrev pub Bytes : List ℕ → Type 0
Bytes l = (i : ℕ) → get_or l i 0 < 256

-- ---- written

pub record Written (p : Profile) (d c : List ℕ) : Type 0 where
  pub size : length c ≡ block_size p
  pub small : Bytes c
  pub encodes : Encodes p (bytes d) (bytes c)
  pub one : (s : List ℕ) → length s ≡ block_size p → Bytes s → Encodes p (bytes d) (bytes s) → s ≡ c

small_word : (w : List F) → Bytes (map byte w)
small_word [] i = omega arith
small_word (x ∷ w) zero = byte_lt x
small_word (x ∷ w) (suc i) = small_word w i

-- what `encode` writes wherever it accepts
pub written_one : (p : Profile) (b d o : List ℕ) → Bytes b → writing b (length d) (length o) ≡ Ok p
    → Valid p × Rising p × (length d ≡ data_size p) × Written p d (written (writing b (length d) (length o)) d o)
written_one p b d o small is =
    let ok = admitted-valid Encoder b (length d) (length o) 0 p is (omega (arith, small 2)) in
    let (_, size, _) = writing-passed b (length d) (length o) p is ok.length.1 in
    let (w, l, f, found-w) = encoding-some p ok (map of d) in
    let c : written (writing b (length d) (length o)) d o ≡ map byte w =
    ap (λ a. written a d o) is ∙ ap (found o) found-w in (
      ok,
      writing-rising b (length d) (length o) p is,
      size,
      record {
        size = ap length c ∙ length-map w byte ∙ l;
        small = subst Bytes (sym c) (small_word w);
        encodes = rw (c, bytes_word w, bytes-entry d) f;
        one = λ s long bytes-s code. written_is p ok _ d o s is long bytes-s code;
      },
    )

-- ---- the round trip

-- c is what was written, whoever wrote it and when; y is what was received, in whatever form it is read
pub round_trip : (p : Profile) (b d c y e : List ℕ) → Valid p → profile_of b ≡ Ok p → length d ≡ data_size p
    → Bytes d → Written p d c → length y ≡ block_size p → length e ≡ data_size p → Restorable p (bytes c) (bytes y)
    → (answer_to (extraction b y (length e)) ≡ Ok tt) × (data_in (extraction b y (length e)) e ≡ d)
round_trip p b d c y e ok profile size small w long room r =
    let (x, decoded, _) = restoring-bytes p ok c y w.size long r in
    let is = extraction-is b p y (length e) profile long room in
    let block = word_bytes (block_size p) c w.size w.small in
    rw (is, decoded, block)
    (refl, data-written p d c (record { valid = ok; size = w.size }) size small w.small w.encodes)

abbrev pub Trip : (b d c y : List ℕ) → ℕ → List ℕ → Answers → Type 0
Trip b d c y o e t = t.written ≡ Ok tt → (p : Profile) → profile_of b ≡ Ok p
    → length y ≡ block_size p → o ≡ data_size p → Restorable p (bytes c) (bytes y)
    → (t.read.answer ≡ Ok tt) × (e ≡ d)

-- who is answered by no refusal is accepted with that profile
writing-is : (p : Profile) (b : List ℕ) (d o : ℕ) → profile_of b ≡ Ok p
    → answer_of (writing b d o) ≡ Ok tt → writing b d o ≡ Ok p
writing-is p b d o profile says = go (writing b d o) refl says
  where
    go : (a : Parsed) → writing b d o ≡ a → answer_of a ≡ Ok tt → writing b d o ≡ Ok p
    go (Ok q) e y = let mine = admitted-profile Encoder b d o 0 q e in cc
    go (Err q) e y = let z : ◌≡◌ {A = ℕ} 0 1 = cc in absurd (omega arith)

-- from the promises of `encode` and `extract`: o and q are what their outputs held
pub trip : (b d o c y q e : List ℕ) (t : Answers) → Bytes b → Bytes d
    → t.written ≡ answer_of (writing b (length d) (length o))
    → c ≡ written (writing b (length d) (length o)) d o
    → t.read.answer ≡ answer_to (extraction b y (length q))
    → e ≡ data_in (extraction b y (length q)) q
    → Trip b d c y (length q) e t
trip b d o c y q e t small_b small-d wrote block read symbols says p profile long room r =
    let is = writing-is p b (length d) (length o) profile (sym wrote ∙ says) in
    let (ok, _, size, w) = written_one p b d o small_b is in
    let (accepted, same) =
    round_trip p b d c y q ok profile size small-d (subst (Written p d) (sym block) w) long room r in
    (read ∙ accepted, symbols ∙ same)

-- ---- alike

-- the promises of `decode` are the fields of Gives
abbrev pub Both : (f g : Form) (b y : List ℕ) → ℕ → (e k : List ℕ) → Pair → Type 0
Both f g b y o e k t = Alike f g (report_of (reading b y o)) e k t.one t.other

pub both : (f g : Form) (b y o q e k : List ℕ) (a c : Reading) → q ≡ o
    → Gives f (reading b y (length o)) o e a → Gives g (reading b y (length q)) q k c
    → Alike f g (report_of (reading b y (length o))) e k a c
both f g b y o q e k a c same x z =
    alike f g _ o e k a c x (subst (λ (o : List ℕ). Gives g (reading b y (length o)) o k c) same z)

-- ---- values of errors

abbrev pub SumOf : (f : Form) (b y e : List ℕ) (i first k : ℕ) (S : Series) (q : ℕ) → Values → Type 0
SumOf f b y e i first k S q t = t.read.answer ≡ Ok tt → (p : Profile) → profile_of b ≡ Ok p
    → (l : Line) → Has t.read.report.lines i l → (c s : ℕ) → l.verdict ≡ Corrected c s
    → first ≡ first-root p → k ≡ 2 * capability p s → S ≡ cut k (syndrome_of p (changes p y e i))
    → q < p.length → subword p.length (bytes y) i q ≢ subword p.length (bytes e) i q
    → let sum = subword p.length (bytes y) i q ⊕ subword p.length (bytes e) i q in
    ErrorValue first k S q f (state_of f k l.solver) sum × (val t.evaluator ≡ sum) × (val t.auxiliary ≡ sum)

-- from the promises of `decode`, `by_evaluator` and `by_auxiliary`; d is no line of the report
pub sum_of : (f : Form) (b y o e : List ℕ) (i first k : ℕ) (S : Series) (q : ℕ) (t : Values) (d : Line)
    → Gives f (reading b y (length o)) o e t.read → Bytes b
    → ((r : ℕ) (f : Form) (m : (form_of f).State) → Is f r (get_or t.read.report.lines i d).solver m
    → val t.evaluator ≡ evaluator_value first k S q f m)
    → ((r : ℕ) (f : Form) (m : (form_of f).State) → Is f r (get_or t.read.report.lines i d).solver m
    → val t.auxiliary ≡ auxiliary_value first k S q f m)
    → SumOf f b y e i first k S q t
unfolding subword
sum_of f b y o e i first k S q t d g small evaluator auxiliary answered p profile l has c s corrected first-is k_is
    S-is hq differ =
    let x = read_solved f b y o e t.read g answered small p profile i c s l has corrected in
    let n = p.length in
    let ok = admitted-valid Card b 0 0 0 p profile (omega (arith, small 2)) in
    let sum = bytes y (i * n + q) ⊕ bytes e (i * n + q) in
    let at : changes p y e i q ≡ sum = ⊞-at (bytes y) (bytes e) (i * n + q) in
    let known = x.syndromes ∙ ap (λ j. cut j (syndrome_of p (changes p y e i))) (sym k_is) ∙ sym S-is in
    let gives : ErrorValue first k S q f (state_of f k l.solver) sum =
    subst (ErrorValue first k S q f (state_of f k l.solver)) at
    (ended_gives first n (changes p y e i) ok.length.1 q hq (λ z. differ (⊕-equal _ _ (sym at ∙ z))) f x.rounds
    (omega (arith, x.long, capability-most p ok s x.low)) k S l.solver x.ended (x.long ∙ sym k_is) known
    (omega (arith, k_is, x.within))
    (λ j h. ap (λ r. syndrome r n (changes p y e i) j) first-is ∙ sym (cut_low k _ j h)
    ∙ ap (λ (S : Series). S j) (sym S-is))) in
    let standing : Is f k (get_or t.read.report.lines i d).solver (state_of f k l.solver) =
    subst (λ (m : Line). Is f k m.solver (state_of f k l.solver)) (sym (has.1 d)) (x.ended.0, refl) in
    (gives, evaluator k f _ standing ∙ gives.evaluator, auxiliary k f _ standing ∙ gives.auxiliary)
