-- What the promises of `decode` and `extract` come to. `reading b y o` is the result for the profile bytes b, the input
-- y and an output of o bytes; what is answered, written and reported for it is what `decode` promises. `extraction b y
-- o` is the same for `extract`.
--
--   Profiled b p n    the bytes b are an accepted profile p whose blocks have n bytes
--   Accepts b y o     the reading is accepted: of which profile, with which block and report
--   Reports p y e a   what the report of the reading a says of the input y and of e, what the output holds in the end
--   Solved f p y e i s x   what the solver x of a corrected subword stands for
--   Alike f g x e k a c   the readings a and c end alike, but for the solvers: each stands at the end of the rounds of
--                     its subword, which x says, in its form
--
-- Proved: an accepted block is a codeword, always (read-accepts, read-codeword), and its report counts the changed
-- symbols and bits (read_reports), and holds for each corrected subword a solver that stands at the end of what its
-- changes explain (read_solved); a block with right sizes is decoded as staged decoding says (reading-is,
-- extraction-is); a written block is restored under the condition of FORMAT 6.11 (read_restores), and one that was not
-- touched always (read-written); the answer is 8 exactly if decoding fails (read_fails), where no mistake is made
-- exactly if too many subwords have too many changes (read_fails_exactly). Two readings of the same bytes that differ
-- in the form alone end alike (alike).
use Rattle.std.specs.Prelude.{ℕ, ◌+◌, ◌*◌, ◌≤◌, ◌<◌, ◌≡◌, refl, not, ◌↔◌, List, map, length, get_or, Ok, Err}
use Rattle.std.proofs.Common.{sym, ap, ◌∙◌, subst, arith}
use Rattle.std.proofs.Math.Decide.{dec_lt}
use Rattle.std.specs.Int.Bits.{bit_xor}
use Rattle.std.specs.Int.Count.{ones}
use Rattle.field.specs.Field.{F, ◌⊕◌, byte, ◌≟◌}
use Rattle.series.specs.Series.{Series, ◌⊞◌, ⊞-at}
use Rattle.series.specs.Shift.{cut, cut_low, cut_unique}
use Rattle.series.specs.Array.{bytes, bytes_word, word_bytes}
use Rattle.series.specs.Word.{entry, word, weight, entry_past, word_cut}
use Rattle.key_equation.specs.Run.{joined}
use Rattle.profile.specs.declared.Profile.{Profile}
use Rattle.profile.specs.declared.Refusal.TheVariants.{Unsettled}
use Rattle.profile.specs.Definition.{Parsed, capability, first-root, block_size, data_size}
use Rattle.profile.specs.declared.questions.Caller.TheVariants.{Decoder, Card}
use Rattle.profile.specs.Questions.{profile_of, reading_of}
use Rattle.profile.specs.QuestionsLaws.{admitted-profile}
use Rattle.profile.specs.Valid.{Valid, admitted-valid, reading-admitted, extracting-admitted}
use Rattle.series.specs.Decide.{holds}
use Rattle.code.specs.Definition.{syndrome_of, subword, Codeword}
use Rattle.code.specs.Block.{Agree, agree-block, codeword_cong}
use Rattle.settling.specs.Settle.{explains_cong}
use Rattle.solver.specs.declared.Form.{Form}
use Rattle.solver.specs.declared.Solver.{Solver}
use Rattle.solver.specs.ContinuationDefinition.{Ended}
use Rattle.staged_decoding.specs.Definition as staged
use Rattle.staged_decoding.specs.Definition.{Outcome, accepted, failed, foreign, decode}
use Rattle.staged_decoding.specs.Definition.{clean, count_of, clean_line, total, report, differences, bit_differences}
use Rattle.staged_decoding.specs.Count.{count_cong, total_cong}
use Rattle.staged_decoding.specs.Course.{Over, Fails, accepted_course, failed_course}
use Rattle.staged_decoding.specs.Accepted.{accepted-codeword, accepted-count, accepted-line_bits, clean_bits}
use Rattle.staged_decoding.specs.Accepted.{accepted-changed, accepted-bits, accepted-line-past, accepted-last}
use Rattle.staged_decoding.specs.Accepted.{accepted-pattern, accepted-rounds, accepted-explains}
use Rattle.staged_decoding.specs.Restorable.{Unmistaken, Restorable, TooMany, Restored}
use Rattle.staged_decoding.specs.Restoring.{restoring-bytes}
use Rattle.staged_decoding.specs.Failing.{failing_exactly}
use Rattle.staged_decoding.specs.Clean.{untouched, decode-codeword}
use Rattle.stages.specs.declared.report.Verdict.TheVariants.{Corrected}
use Rattle.stages.specs.declared.report.Line.{Line}
use Rattle.stages.specs.Report.{verdict_of, says, Has, Tells}
use Rattle.stages.specs.Lines.{says_at}
use Rattle.decoder.specs.declared.prepared.Reading.{Reading}
use Rattle.decoder.specs.Definition.{Result, read, concluded, result_of, reading, extraction}
use Rattle.decoder.specs.Definition.{answer_to, block_of, report_of, Gives}

-- ---- accepted profiles

pub record Profiled (b : List ℕ) (p : Profile) (n : ℕ) : Type 0 where
  pub profile : profile_of b ≡ Ok p
  pub small : (i : ℕ) → get_or b i 0 < 256
  pub size : n ≡ block_size p

profiled-valid : (b : List ℕ) (p : Profile) (n : ℕ) → Profiled b p n → Valid p
profiled-valid b p n j = admitted-valid Card b 0 0 0 p j.profile (omega (arith, j.small 2))

pub reading-is : (b : List ℕ) (p : Profile) (y : List ℕ) (o : ℕ) → Profiled b p (length y) → o ≡ length y
    → reading b y o ≡ concluded p (decode p (bytes y))
reading-is b p y o j e =
    ap (λ a. result_of a y) (reading-admitted b (length y) o p j.profile j.size (e ∙ j.size))

pub extraction-is : (b : List ℕ) (p : Profile) (y : List ℕ) (o : ℕ) → profile_of b ≡ Ok p
    → length y ≡ block_size p → o ≡ data_size p
    → extraction b y o ≡ concluded p (decode p (bytes y))
extraction-is b p y o profile size room =
    ap (λ a. result_of a y) (extracting-admitted b (length y) o p profile size room)

-- ---- accepted blocks

-- what an accepted answer means
pub record Accepts (b y : List ℕ) (o : ℕ) : Type 0 where
  pub p : Profile
  pub block : Series
  pub report : staged.Report
  pub profile : profile_of b ≡ Ok p
  pub decoded : decode p (bytes y) ≡ accepted block report
  pub is : reading b y o ≡ read p block report

pub read-accepts : (b y : List ℕ) (o : ℕ) → answer_to (reading b y o) ≡ Ok tt → Accepts b y o
read-accepts b y o e = go (reading_of b (length y) o) refl e
  where
    outcome : (p : Profile) → reading_of b (length y) o ≡ Ok p → (z : Outcome) → decode p (bytes y) ≡ z
        → answer_to (concluded p z) ≡ Ok tt
        → Accepts b y o
    outcome p q (accepted s x) d e = record {
      p = p;
      block = s;
      report = x;
      profile = admitted-profile Decoder b (length y) o 0 p q;
      decoded = d;
      is = ap (λ a. result_of a y) q ∙ ap (concluded p) d;
    }
    outcome p q (failed r) d e = let z : ◌≡◌ {A = ℕ} 0 1 = cc in absurd (omega arith)
    outcome p q foreign d e = let z : ◌≡◌ {A = ℕ} 0 1 = cc in absurd (omega arith)

    go : (a : Parsed) → reading_of b (length y) o ≡ a → answer_to (result_of a y) ≡ Ok tt → Accepts b y o
    go (Ok p) q e = outcome p q (decode p (bytes y)) refl e
    go (Err r) q e = let z : ◌≡◌ {A = ℕ} 0 1 = cc in absurd (omega arith)

-- ---- codewords

-- what goes out is the block
block-is : (p : Profile) (s : Series) → bytes (map byte (word (block_size p) s)) ≡ cut (block_size p) s
block-is p s = bytes_word (word (block_size p) s) ∙ word_cut (block_size p) s

cut_agrees : (p : Profile) (s : Series) → Agree p 0 s (cut (block_size p) s)
cut_agrees p s = agree-block p 0 s (cut (block_size p) s) (λ k _ l. sym (cut_low (block_size p) s k l))

pub read-codeword : (b y o : List ℕ) → answer_to (reading b y (length o)) ≡ Ok tt
    → (p : Profile) × (profile_of b ≡ Ok p) × Codeword p (bytes (block_of (reading b y (length o)) o))
read-codeword b y o e =
    let a = read-accepts b y (length o) e in
    let code = codeword_cong a.p a.block (cut (block_size a.p) a.block) (cut_agrees a.p a.block)
    (accepted-codeword a.p (bytes y) a.block a.report a.decoded) in
    (a.p, a.profile, rw (a.is, block-is a.p a.block) code)

-- ---- reports

pub record Reports (p : Profile) (y e : List ℕ) (a : Reading) : Type 0 where
  -- the count of a line says at how many positions its subword was changed, its bits say in how many bits, which a
  -- clean one has none of, and lines that are no subword's are clean
  pub count : (i : ℕ) → i < p.subwords
      → count_of (says a.report.lines i).verdict ≡ differences p (bytes y) (bytes e) i
  pub line_bits : (i : ℕ) → i < p.subwords
      → (says a.report.lines i).bits ≡ bit_differences p (bytes y) (bytes e) i
  pub clean_bits : (i : ℕ) → (says a.report.lines i).verdict ≡ clean → (says a.report.lines i).bits ≡ 0
  pub past : (i : ℕ) → p.subwords ≤ i → says a.report.lines i ≡ clean_line
  pub changed : a.report.changed ≡ total p.subwords (differences p (bytes y) (bytes e))
  pub bits : a.report.bits ≡ total p.subwords (bit_differences p (bytes y) (bytes e))
  -- the last stage was entered, and after it every subword is settled
  pub last : Over p (bytes y) a.report.last

differences-agree : (p : Profile) (y s t : Series) → Agree p 0 s t → (i : ℕ) → i < p.subwords
    → differences p y s i ≡ differences p y t i
unfolding differences
differences-agree p y s t same i h =
    count_cong p.length _ _
    (λ q l. ap (λ v. not (holds (subword p.length y i q ≟ v))) (same i (omega arith) h q l))

bit_differences-agree : (p : Profile) (y s t : Series) → Agree p 0 s t → (i : ℕ) → i < p.subwords
    → bit_differences p y s i ≡ bit_differences p y t i
unfolding bit_differences
bit_differences-agree p y s t same i h =
    total_cong p.length _ _
    (λ q l. ap (λ v. ones (bit_xor (byte (subword p.length y i q)) (byte v))) (same i (omega arith) h q l))

pub read_reports : (f : Form) (b y o e : List ℕ) (a : Reading) → Gives f (reading b y (length o)) o e a
    → a.answer ≡ Ok tt
    → (p : Profile) × (profile_of b ≡ Ok p) × Codeword p (bytes e) × Reports p y e a
unfolding report
read_reports f b y o e a g answered =
    let says = sym g.answer ∙ answered in
    let x = read-accepts b y (length o) says in
    let p = x.p in
    let is : bytes e ≡ cut (block_size p) x.block =
    ap bytes (g.block ∙ ap (λ r. block_of r o) x.is) ∙ block-is p x.block in
    let tells = subst (λ r. Tells f (report_of r) a.report) x.is g.report in
    let same : (i : ℕ) → i < p.subwords → differences p (bytes y) x.block i ≡ differences p (bytes y) (bytes e) i =
    λ i h. differences-agree p (bytes y) x.block _ (cut_agrees p x.block) i h
    ∙ ap (λ s. differences p (bytes y) s i) (sym is) in
    let same_bits : (i : ℕ) → i < p.subwords
    → bit_differences p (bytes y) x.block i ≡ bit_differences p (bytes y) (bytes e) i =
    λ i h. bit_differences-agree p (bytes y) x.block _ (cut_agrees p x.block) i h
    ∙ ap (λ s. bit_differences p (bytes y) s i) (sym is) in
    let course = (accepted_course p (bytes y) x.block x.report).0 x.decoded in
    let last : course.last ≡ a.report.last =
    sym (tells.last ∙ ap (λ (z : staged.Report). z.last) course.says) in (
      p,
      x.profile,
      subst (λ s. Codeword p s) (sym is) (codeword_cong p x.block _ (cut_agrees p x.block) course.code),
      record {
        count = λ i h. ap (λ (l : staged.Line). count_of l.verdict) (tells.lines i)
            ∙ accepted-count p (bytes y) x.block x.report x.decoded i h ∙ same i h;
        line_bits = λ i h. ap (λ (l : staged.Line). l.bits) (tells.lines i)
            ∙ accepted-line_bits p (bytes y) x.block x.report x.decoded i h ∙ same_bits i h;
        clean_bits = λ i h. rw (tells.lines i)
            (clean_bits p (bytes y) x.block x.report x.decoded i (rw (tells.lines i) at h));
        past = λ i h. tells.lines i ∙ accepted-line-past p (bytes y) x.block x.report x.decoded i h;
        changed = tells.changed ∙ accepted-changed p (bytes y) x.block x.report x.decoded
            ∙ total_cong p.subwords _ _ same;
        bits = tells.bits ∙ accepted-bits p (bytes y) x.block x.report x.decoded
            ∙ total_cong p.subwords _ _ same_bits;
        last = subst (Over p (bytes y)) last course.over;
      },
    )

-- ---- corrected subwords

-- what is received and what is written, added: subword i
abbrev pub changes : Profile → (y e : List ℕ) → ℕ → Series
changes p y e = subword p.length (bytes y ⊞ bytes e)

-- what the report of a reading holds for a subword i that was corrected at stage s: a solver that stands at the end of
-- rounds, 2 t_s syndromes in all, which are those of the changes, at most t_s, y being received and e written
pub record Solved (f : Form) (p : Profile) (y e : List ℕ) (i s : ℕ) (solver : Solver) : Type 0 where
  pub rounds : List (List F)
  pub low : s ≤ p.nested
  pub long : length (joined rounds) ≡ 2 * capability p s
  pub ended : Ended f rounds solver
  pub syndromes : entry (joined rounds) ≡ cut (2 * capability p s) (syndrome_of p (changes p y e i))
  pub within : weight p.length (changes p y e i) ≤ capability p s

pub read_solved : (f : Form) (b y o e : List ℕ) (a : Reading) → Gives f (reading b y (length o)) o e a
    → a.answer ≡ Ok tt → ((i : ℕ) → get_or b i 0 < 256)
    → (p : Profile) → profile_of b ≡ Ok p → (i c s : ℕ) (l : Line) → Has a.report.lines i l
    → l.verdict ≡ Corrected c s
    → Solved f p y e i s l.solver
unfolding subword
read_solved f b y o e a g answered small p profile i c s l has corrected = go (dec_lt i p.subwords)
  where
    x : Accepts b y (length o)
    x = read-accepts b y (length o) (sym g.answer ∙ answered)

    same : x.p ≡ p
    same = let e : Ok x.p ≡ Ok p = sym x.profile ∙ profile in cc

    decoded : decode p (bytes y) ≡ accepted x.block x.report
    decoded = subst (λ p. decode p (bytes y) ≡ accepted x.block x.report) same x.decoded

    is : reading b y (length o) ≡ read p x.block x.report
    is = x.is ∙ ap (λ p. read p x.block x.report) same

    out : bytes e ≡ cut (block_size p) x.block
    out = ap bytes (g.block ∙ ap (λ r. block_of r o) is) ∙ block-is p x.block

    tells : Tells f x.report a.report
    tells = subst (λ r. Tells f (report_of r) a.report) is g.report

    verdict : (x.report.line i).verdict ≡ staged.corrected c s
    verdict = ap (λ (l : staged.Line). l.verdict) (sym (tells.lines i) ∙ says_at a.report.lines i l has)
        ∙ ap verdict_of corrected

    ok : Valid p
    ok = admitted-valid Card b 0 0 0 p profile (omega (arith, small 2))

    -- the block that went out has the same subwords
    agree : i < p.subwords → (q : ℕ) → q < p.length
        → subword p.length (bytes y ⊞ x.block) i q ≡ changes p y e i q
    agree h q l =
        ⊞-at (bytes y) x.block (i * p.length + q) ∙ ap (λ t. bytes y (i * p.length + q) ⊕ t)
        (cut_agrees p x.block i (omega arith) h q l ∙ ap (λ (s : Series). s (i * p.length + q)) (sym out))
        ∙ sym (⊞-at (bytes y) (bytes e) (i * p.length + q))

    go : Dec (i < p.subwords) → Solved f p y e i s l.solver
    go (yes h) =
        let long = accepted-rounds p (bytes y) x.block x.report decoded ok i c s h verdict in
        let explains = explains_cong (first-root p) (capability p s) p.length _ _ _ (agree h)
        (accepted-explains p (bytes y) x.block x.report decoded ok i c s h verdict) in
        record {
          rounds = x.report.rounds i;
          low = omega (
            arith,
            (accepted-pattern p (bytes y) x.block x.report decoded ok i c s h verdict).0,
            accepted-last p (bytes y) x.block x.report decoded,
          );
          long = long;
          ended = tells.solvers i l has;
          syndromes = sym (cut_unique _ _ _ explains.syndromes (λ j k. entry_past _ j (omega (arith, long))));
          within = explains.within;
        }
    go (no h) =
        let past = accepted-line-past p (bytes y) x.block x.report decoded i (omega arith) in
        let e : staged.clean ≡ staged.corrected c s = sym (ap (λ (l : staged.Line). l.verdict) past) ∙ verdict in
        let z : ◌≡◌ {A = ℕ} 0 1 = cc in
        absurd (omega arith)

-- ---- restoring

module _ (b : List ℕ) (p : Profile) (c y o : List ℕ) (j : Profiled b p (length y)) (same : length c ≡ length y)
    (room : length o ≡ length y)
    (small : (i : ℕ) → get_or c i 0 < 256) where
  -- c was written and y is read
  pub read_restores : Restorable p (bytes c) (bytes y)
      → (answer_to (reading b y (length o)) ≡ Ok tt) × (block_of (reading b y (length o)) o ≡ c)
      × Restored p (bytes c) (bytes y) (report_of (reading b y (length o)))
  read_restores r =
      let (x, e, f) = restoring-bytes p (profiled-valid b p (length y) j) c y (same ∙ j.size) j.size r in
      rw (reading-is b p y (length o) j room, e) (refl, word_bytes (block_size p) c (same ∙ j.size) small, f)

pub read-written : (b : List ℕ) (p : Profile) (c o : List ℕ) → Profiled b p (length c) → length o ≡ length c
    → ((i : ℕ) → get_or c i 0 < 256)
    → Codeword p (bytes c)
    → (answer_to (reading b c (length o)) ≡ Ok tt) × (block_of (reading b c (length o)) o ≡ c)
    × (report_of (reading b c (length o)) ≡ untouched)
read-written b p c o j room small code =
    rw (reading-is b p c (length o) j room, decode-codeword p (profiled-valid b p (length c) j) (bytes c) code)
    (refl, word_bytes (block_size p) c j.size small, refl)

-- ---- the answer 8

module _ (b : List ℕ) (p : Profile) (y : List ℕ) (o : ℕ) (j : Profiled b p (length y))
    (room : o ≡ length y) (s : ℕ) where
  pub read_fails : answer_to (reading b y o) ≡ Err (Unsettled s) ↔ Fails p (bytes y) s
  read_fails = (
    λ e. (failed_course p (bytes y) s).0 (to (decode p (bytes y)) (ap answer_to (sym is) ∙ e)),
    λ f. ap answer_to (is ∙ ap (concluded p) ((failed_course p (bytes y) s).1 f)),
  )
    where
      is : reading b y o ≡ concluded p (decode p (bytes y))
      is = reading-is b p y o j room

      to : (z : Outcome) → answer_to (concluded p z) ≡ Err (Unsettled s) → z ≡ failed s
      to (accepted d x) e = let z : ◌≡◌ {A = ℕ} 0 1 = cc in absurd (omega arith)
      to (failed r) e = let q : r ≡ s = cc in ap failed q
      to foreign e = let z : ◌≡◌ {A = ℕ} 0 1 = cc in absurd (omega arith)

  -- c was written
  pub read_fails_exactly : (c : Series) → Unmistaken p c (bytes y)
      → answer_to (reading b y o) ≡ Err (Unsettled s) ↔ TooMany p c (bytes y) s
  read_fails_exactly c u =
      let exact = failing_exactly p (profiled-valid b p (length y) j) c (bytes y) u s in
      let course = failed_course p (bytes y) s in
      (λ e. exact.0 (course.1 (read_fails.0 e)), λ t. read_fails.1 (course.0 (exact.1 t)))

-- ---- all three forms

-- e and k are what the outputs hold in the end, x is the report that staged decoding names
pub record Alike (f g : Form) (x : staged.Report) (e k : List ℕ) (a c : Reading) : Type 0 where
  pub answer : a.answer ≡ c.answer
  pub block : e ≡ k
  pub lines : (i : ℕ) → says a.report.lines i ≡ says c.report.lines i
  pub changed : a.report.changed ≡ c.report.changed
  pub bits : a.report.bits ≡ c.report.bits
  pub last : a.report.last ≡ c.report.last
  pub solvers : (i : ℕ) (l m : Line) → Has a.report.lines i l → Has c.report.lines i m
      → Ended f (x.rounds i) l.solver × Ended g (x.rounds i) m.solver

-- the promises of `decode` are the fields of Gives, r being `reading` of what is lent
pub alike : (f g : Form) (r : Result) (o e k : List ℕ) (a c : Reading)
    → Gives f r o e a → Gives g r o k c → Alike f g (report_of r) e k a c
alike f g r o e k a c x y = record {
  answer = x.answer ∙ sym y.answer;
  block = x.block ∙ sym y.block;
  lines = λ i. x.report.lines i ∙ sym (y.report.lines i);
  changed = x.report.changed ∙ sym y.report.changed;
  bits = x.report.bits ∙ sym y.report.bits;
  last = x.report.last ∙ sym y.report.last;
  solvers = λ i l m h j. (x.report.solvers i l h, y.report.solvers i m j);
}
