-- What an accepted outcome means.
--
-- Proved: the block is a codeword (accepted-codeword), and as received past its end (accepted-past); the count of a
-- line is the number of positions where received and decoded symbol differ (accepted-count), its bits are the bits in
-- which they do (accepted-line_bits), none if it is clean (clean_bits), and the changed symbols and bits are the sums
-- of these (accepted-changed, accepted-bits); a line has at most 2,040 bits, and the report 16,320 (accepted-few); the
-- last stage is at most v (accepted-last). The rounds of a corrected subword, joined, are syndromes that are settled,
-- at the stage of its line, by what the decoded subword differs by from the received one (accepted-pattern): as many as
-- that stage has (accepted-rounds), and explained by it (accepted-explains); a clean one has none (clean-rounds). Lines
-- that are no subword's are clean (accepted-line-past). Where every subword is settled no line has more than 8 × n bits
-- (settled-bits).
use Rattle.std.specs.Prelude.{ℕ, zero, suc, ◌*◌, ◌≤◌, ◌<◌, ◌≡◌, refl, [], length}
use Rattle.std.proofs.Common.{sym, ◌∙◌, arith}
use Rattle.std.proofs.Math.Path.{ap}
use Rattle.std.proofs.Math.Option.{none, some, get_or}
use Rattle.std.proofs.Math.Decide.{dec_lt}
use Rattle.series.specs.Series.{Series, ◌⊞◌}
use Rattle.series.specs.Word.{entry, word, weight, length-word, entry-word, zero-weight}
use Rattle.key_equation.specs.Run.{joined}
use Rattle.profile.specs.declared.Profile.{Profile}
use Rattle.profile.specs.Definition.{capability, first-root, block_size}
use Rattle.profile.specs.Valid.{Valid}
use Rattle.code.specs.Definition.{subword, Codeword}
use Rattle.settling.specs.Definition.{Explains}
use Rattle.settling.specs.Settle.{settle-some, settle-one, settle_cong, explains_cong}
use Rattle.staged_decoding.specs.Definition as staged
use Rattle.staged_decoding.specs.Definition.{total, Verdict, clean, corrected, count_of, stage_of, Line}
use Rattle.staged_decoding.specs.Definition.{clean_line, bit_weight, settle_at, Progress, start, line_at}
use Rattle.staged_decoding.specs.Definition.{line_rounds, extend, stages, Report, report, accepted, decode}
use Rattle.staged_decoding.specs.Definition.{differences, bit_differences}
use Rattle.staged_decoding.specs.Count.{total_cong, total_le}
use Rattle.staged_decoding.specs.Stage.{verdict_at-is, stage-past, stage-line-past}
use Rattle.staged_decoding.specs.Rounds.{rounds-joined}
use Rattle.staged_decoding.specs.Course.{before_stage, after_stage, Accepts, accepted_course}
use Rattle.staged_decoding.specs.Course.{settled_course}
use Rattle.staged_decoding.specs.Differences.{differences-weight, bit_differences-weight}
use Rattle.staged_decoding.specs.Differences.{bit_weight-zeros, bit_weight_le}
use Rattle.staged_decoding.specs.Sound.{Settled, settled-line}

pub accepted-codeword : (p : Profile) (y d : Series) (x : Report) → decode p y ≡ accepted d x → Codeword p d
accepted-codeword p y d x e = ((accepted_course p y d x).0 e).code

-- ---- what is no subword's

before-past : (p : Profile) (y : Series) (r a : ℕ) → block_size p ≤ a → (before_stage p y r).block a ≡ y a
unfolding before_stage start extend
before-past p y zero a h = refl
before-past p y (suc r) a h = stage-past p r (before_stage p y r) a h ∙ before-past p y r a h

before-line-past : (p : Profile) (y : Series) (r i : ℕ) → p.subwords ≤ i → (before_stage p y r).line i ≡ none
unfolding before_stage start extend
before-line-past p y zero i h = refl
before-line-past p y (suc r) i h = stage-line-past p r (before_stage p y r) i h ∙ before-line-past p y r i h

-- ---- the report

module _ (p : Profile) (y d : Series) (x : Report) (e : decode p y ≡ accepted d x) where
  abbrev a : Accepts p y d x
  a = (accepted_course p y d x).0 e

  abbrev g : Progress
  g = after_stage p y a.last

  line_is : (i : ℕ) → x.line i ≡ line_at g i
  unfolding report
  line_is i = ap (λ (x : Report). x.line i) a.says

  pub accepted-past : (k : ℕ) → block_size p ≤ k → d k ≡ y k
  accepted-past k h =
      ap (λ (s : Series). s k) a.block ∙ stage-past p a.last (before_stage p y a.last) k h
      ∙ before-past p y a.last k h

  pub accepted-line-past : (i : ℕ) → p.subwords ≤ i → x.line i ≡ clean_line
  accepted-line-past i h =
      line_is i
      ∙ ap (λ o. get_or o clean_line)
      (stage-line-past p a.last (before_stage p y a.last) i h ∙ before-line-past p y a.last i h)

  verdict-is : (i : ℕ) (v : Verdict) → (x.line i).verdict ≡ v → (line_at g i).verdict ≡ v
  verdict-is i v f = ap (λ (l : Line). l.verdict) (sym (line_is i)) ∙ f

  pub clean-rounds : (i : ℕ) → (x.line i).verdict ≡ clean → x.rounds i ≡ []
  unfolding report
  clean-rounds i f =
      ap (λ (x : Report). x.rounds i) a.says ∙ ap (line_rounds p (g.row i)) (verdict-is i clean f)

  settled : (i : ℕ) → i < p.subwords → Settled p y (suc a.last) g i (x.line i)
  settled i h = rw (line_is i) (settled-line p y a.last a.over.none_left i h)

  abbrev changes : ℕ → ℕ
  changes i = weight p.length (subword p.length (y ⊞ g.block) i)

  changes_are : (i : ℕ) → changes i ≡ differences p y d i
  changes_are i =
      sym (differences-weight p y d i ∙ ap (λ s. weight p.length (subword p.length (y ⊞ s) i)) a.block)

  pub accepted-count : (i : ℕ) → i < p.subwords → count_of (x.line i).verdict ≡ differences p y d i
  accepted-count i h = ap (λ (l : Line). count_of l.verdict) (settled i h).line_is
      ∙ (verdict_at-is (settled i h).stage (changes i)).0 ∙ changes_are i

  pub accepted-line_bits : (i : ℕ) → i < p.subwords → (x.line i).bits ≡ bit_differences p y d i
  accepted-line_bits i h =
      ap (λ (l : Line). l.bits) (settled i h).line_is
      ∙ sym (bit_differences-weight p y d i
      ∙ ap (λ s. bit_weight p.length (subword p.length (y ⊞ s) i)) a.block)

  pub clean_bits : (i : ℕ) → (x.line i).verdict ≡ clean → (x.line i).bits ≡ 0
  clean_bits i f = go (dec_lt i p.subwords)
    where
      n : ℕ
      n = p.length

      go : Dec (i < p.subwords) → (x.line i).bits ≡ 0
      go (no h) = ap (λ (l : Line). l.bits) (accepted-line-past i (omega arith))
      go (yes h) =
          let none-changed : weight n (subword n (y ⊞ d) i) ≡ 0 =
          sym (differences-weight p y d i) ∙ sym (accepted-count i h) ∙ ap count_of f in
          accepted-line_bits i h ∙ bit_differences-weight p y d i ∙ bit_weight-zeros n _ (zero-weight n _ none-changed)

  pub accepted-changed : x.changed ≡ total p.subwords (differences p y d)
  unfolding report
  accepted-changed =
      ap (λ (x : Report). x.changed) a.says
      ∙ total_cong p.subwords _ _
      (λ i h. ap (λ (l : Line). count_of l.verdict) (sym (line_is i)) ∙ accepted-count i h)

  pub accepted-bits : x.bits ≡ total p.subwords (bit_differences p y d)
  unfolding report
  accepted-bits =
      ap (λ (x : Report). x.bits) a.says
      ∙ total_cong p.subwords _ _ (λ i h. ap (λ (l : Line). l.bits) (sym (line_is i)) ∙ accepted-line_bits i h)

  pub accepted-few : Valid p → ((i : ℕ) → i < p.subwords → (x.line i).bits ≤ 2040) × (x.bits ≤ 16320)
  accepted-few ok = (
    λ i h. omega (arith, accepted-line_bits i h, few i),
    omega (arith, accepted-bits, total_le p.subwords 2040 (bit_differences p y d) (λ i h. few i), ok.subwords.1),
  )
    where
      few : (i : ℕ) → bit_differences p y d i ≤ 2040
      few i =
          let word = subword p.length (y ⊞ d) i in
          omega (arith, bit_differences-weight p y d i, bit_weight_le p.length word, ok.length.1)

  last-is : x.last ≡ a.last
  unfolding report
  last-is = ap (λ (x : Report). x.last) a.says

  pub accepted-last : x.last ≤ p.nested
  accepted-last = omega (arith, last-is, a.over.low)

  -- a subword that was corrected at stage s
  module _ (ok : Valid p) (i k s : ℕ) (h : i < p.subwords) (f : (x.line i).verdict ≡ corrected k s) where
    x-settled : Settled p y (suc a.last) g i (x.line i)
    x-settled = settled i h

    at_stage : x-settled.stage ≡ s
    at_stage =
        sym (verdict_at-is x-settled.stage (changes i)).1
        ∙ ap stage_of (ap (λ (l : Line). l.verdict) (sym x-settled.line_is) ∙ f)

    s-low : s ≤ p.nested
    s-low = omega (arith, at_stage, x-settled.passed, a.over.low)

    rounds_are : joined (x.rounds i) ≡ word (2 * capability p s) (g.row i)
    unfolding report
    rounds_are =
        ap (λ (x : Report). joined (x.rounds i)) a.says
        ∙ ap (λ v. joined (line_rounds p (g.row i) v)) (verdict-is i (corrected k s) f)
        ∙ rounds-joined p ok (g.row i) s s-low

    agree : settle_at p s (entry (word (2 * capability p s) (g.row i)))
        ≡ settle_at p s (g.row i)
    agree = settle_cong (first-root p) (capability p s) p.length _ _ (λ j l. entry-word _ (g.row i) j l)

    settles : settle_at p s (g.row i) ≡ some (word p.length (subword p.length (y ⊞ d) i))
    settles =
        settle-one (first-root p) (capability p s) p.length (g.row i) _ ok.length.1
        (rw at_stage at x-settled.explained)
        ∙ ap (λ b. some (word p.length (subword p.length (y ⊞ b) i))) (sym a.block)

    pub accepted-pattern : (s ≤ x.last) × (settle_at p s (entry (joined (x.rounds i)))
        ≡ some (word p.length (subword p.length (y ⊞ d) i)))
    accepted-pattern = (
      omega (arith, at_stage, last-is, x-settled.passed),
      ap (λ r. settle_at p s (entry r)) rounds_are ∙ agree ∙ settles,
    )

    pub accepted-rounds : length (joined (x.rounds i)) ≡ 2 * capability p s
    accepted-rounds = ap length rounds_are ∙ length-word _ _

    pub accepted-explains : Explains (first-root p) (capability p s) p.length (entry (joined (x.rounds i)))
        (subword p.length (y ⊞ d) i)
    accepted-explains =
        explains_cong (first-root p) (capability p s) p.length _ _ _ (λ q l. entry-word p.length _ q l)
        (settle-some (first-root p) (capability p s) p.length _ _ accepted-pattern.1).1

-- ---- all settled

pub settled-bits : (p : Profile) (y : Series) (r : ℕ) (g : Progress)
    → stages p p.nested 0 (start p y) ≡ staged.settled r g
    → (i : ℕ) → i < p.subwords → (line_at g i).bits ≤ 8 * p.length
settled-bits p y r g e i h =
    let (over, is) = settled_course p y r g e in
    let word = subword p.length (y ⊞ (after_stage p y r).block) i in
    let bits : (line_at g i).bits ≡ bit_weight p.length word =
    ap (λ (g : Progress). (line_at g i).bits) is
    ∙ ap (λ (l : Line). l.bits) (settled-line p y r over.none_left i h).line_is in
    omega (arith, bits, bit_weight_le p.length word)
