-- How decoding goes: its stages one by one, and where it ends.
--
--   before_stage p y r   the progress before stage r, after_stage p y r: after it, y being received
--   Entered p y r        stage r is entered: after each stage before it some subwords were left unsettled, and
--                        not too many
--   Over p y s           stage s is entered, and after it every subword is settled
--   Fails p y s          stage s is entered, and after it too many subwords are left unsettled
--   Accepts p y d x      decoding is over, the block is then d, a codeword, and the report is x
--   Rejects p y          decoding is over, and the block is then no codeword
--
-- Proved: the three ways on after a stage (stages-over, stages_stop, stages-on), which a loop follows; decoding
-- accepts, fails or rejects (course), and the outcome is accepted, failed or foreign exactly if it does so
-- (accepted_course, failed_course, foreign_course); where the stages end with every subword settled decoding is over
-- (settled_course).
use Prim.Native.Nat.{ℕ, zero, suc, ◌+◌, ◌-◌, ◌≤◌, ◌<◌}
use Rattle.std.specs.Prelude.{◌≡◌, ◌↔◌}
use Rattle.std.proofs.Math.Path.{refl, ap, ap₂}
use Rattle.std.proofs.Common.{sym, ◌∙◌}
use Rattle.std.proofs.Math.Nat.{sub-zero}
use Rattle.std.proofs.Math.Numerals.{add-one}
use native.Mathlib.Omega.{arith}
use Rattle.std.proofs.Math.Decide.{dec_lt, ℕ_discrete}
use borrow.Author.Tests.{eq-eqb, ne_eqb, lt-ltb, le-ltb}
use Rattle.series.specs.Series.{Series}
use Rattle.series.specs.Decide.{holds_yes, holds_no}
use Rattle.profile.specs.declared.Profile.{Profile}
use Rattle.code.specs.Definition.{Codeword}
use Rattle.code.specs.Encoding.{codeword?}
use Rattle.staged_decoding.specs.Definition.{Progress, start, stage, unsettled, round, settled, stopped}
use Rattle.staged_decoding.specs.Definition.{stages, Report, report, accepted, failed, foreign}
use Rattle.staged_decoding.specs.Definition.{outcome_number, outcome_of, decode}

-- ---- the ways on after a stage

-- h is the progress after stage r
module _ (p : Profile) (r : ℕ) (g h : Progress) (is : h ≡ stage p r g) where
  pub stages-over : (left : ℕ) → unsettled p h ≡ 0 → stages p left r g ≡ settled r h
  unfolding stages
  stages-over zero e = rw (← is, eq-eqb (unsettled p h) 0 e)
  stages-over (suc left) e = rw (← is, eq-eqb (unsettled p h) 0 e)

  pub stages_stop : (left : ℕ) → left < unsettled p h → stages p left r g ≡ stopped r h
  unfolding stages
  stages_stop zero l = rw (← is, ne_eqb (unsettled p h) 0 (omega arith), lt-ltb 0 (unsettled p h) l)
  stages_stop (suc left) l = rw (← is, ne_eqb (unsettled p h) 0 (omega arith), lt-ltb (suc left) (unsettled p h) l)

  pub stages-on : (left : ℕ) → 1 ≤ unsettled p h → unsettled p h ≤ left
      → stages p left r g ≡ stages p (left - 1) (r + 1) (round p r h)
  unfolding stages
  stages-on zero l k = absurd (omega arith)
  stages-on (suc left) l k =
      let e : suc left - 1 ≡ left = omega arith in
      rw (← is, ne_eqb (unsettled p h) 0 (omega arith), le-ltb (suc left) (unsettled p h) k, e, add-one r)

-- ---- stage by stage

unfoldable pub before_stage : Profile → Series → ℕ → Progress
before_stage p y zero = start p y
before_stage p y (suc r) = round p r (stage p r (before_stage p y r))

abbrev pub after_stage : Profile → Series → ℕ → Progress
after_stage p y r = stage p r (before_stage p y r)

abbrev pub Entered : Profile → Series → ℕ → Type 0
Entered p y r = (q : ℕ) → q < r
    → (1 ≤ unsettled p (after_stage p y q)) × (unsettled p (after_stage p y q) ≤ p.nested - q)

-- one number more
pub up_to : (P : ℕ → Type 0) (r : ℕ) → ((q : ℕ) → q < r → P q) → P r → (q : ℕ) → q < suc r → P q
up_to P r f x q h = go (ℕ_discrete q r)
  where
    go : Dec (q ≡ r) → P q
    go (yes e) = rw e x
    go (no e) = f q (omega arith)

module _ (p : Profile) (y : Series) where
  stages-entered : (r : ℕ) → r ≤ p.nested → Entered p y r
      → stages p p.nested 0 (start p y) ≡ stages p (p.nested - r) r (before_stage p y r)
  unfolding before_stage
  stages-entered zero h e = rw sub-zero
  stages-entered (suc r) h e =
      let s : p.nested - r - 1 ≡ p.nested - suc r = omega arith in
      let (a, b) = e r (omega arith) in
      stages-entered r (omega arith) (λ q l. e q (omega arith))
      ∙ stages-on p r (before_stage p y r) _ refl (p.nested - r) a b
      ∙ ap₂ (λ k t. stages p k t (round p r (after_stage p y r))) s (add-one r)

-- ---- the outcome

pub record Over (p : Profile) (y : Series) (s : ℕ) : Type 0 where
  pub low : s ≤ p.nested
  pub entered : Entered p y s
  pub none_left : unsettled p (after_stage p y s) ≡ 0

pub record Fails (p : Profile) (y : Series) (s : ℕ) : Type 0 where
  pub low : s ≤ p.nested
  pub entered : Entered p y s
  pub many : p.nested - s < unsettled p (after_stage p y s)

pub record Accepts (p : Profile) (y d : Series) (x : Report) : Type 0 where
  pub last : ℕ
  pub over : Over p y last
  pub block : d ≡ (after_stage p y last).block
  pub says : x ≡ report p last (after_stage p y last)
  pub code : Codeword p d

pub record Rejects (p : Profile) (y : Series) : Type 0 where
  pub last : ℕ
  pub over : Over p y last
  pub no_code : ¬ Codeword p (after_stage p y last).block

module _ (p : Profile) (y : Series) where
  stages-settled : (s : ℕ) → Over p y s → stages p p.nested 0 (start p y) ≡ settled s (after_stage p y s)
  stages-settled s o = stages-entered p y s o.low o.entered
      ∙ stages-over p s (before_stage p y s) _ refl (p.nested - s) o.none_left

  stages-stopped : (s : ℕ) → Fails p y s → stages p p.nested 0 (start p y) ≡ stopped s (after_stage p y s)
  stages-stopped s f = stages-entered p y s f.low f.entered
      ∙ stages_stop p s (before_stage p y s) _ refl (p.nested - s) f.many

  decode-over : (s : ℕ) → Over p y s → decode p y ≡ outcome_of p (settled s (after_stage p y s))
  unfolding decode
  decode-over s o = ap (outcome_of p) (stages-settled s o)

  accepts : (d : Series) (x : Report) → Accepts p y d x → decode p y ≡ accepted d x
  accepts d x a =
      let c : Codeword p (after_stage p y a.last).block = rw a.block at a.code in
      decode-over a.last a.over
      ∙ rw (holds_yes (codeword? p (after_stage p y a.last).block) c) (sym (ap₂ accepted a.block a.says))

  rejects : Rejects p y → decode p y ≡ foreign
  rejects a = decode-over a.last a.over
      ∙ rw (holds_no (codeword? p (after_stage p y a.last).block) a.no_code)

  fails : (s : ℕ) → Fails p y s → decode p y ≡ failed s
  unfolding decode
  fails s f = ap (outcome_of p) (stages-stopped s f)

  -- it is one of the three, whatever was received
  pub data Course : Type 0 where
    accepting : (d : Series) (x : Report) → Accepts p y d x → Course
    failing : (s : ℕ) → Fails p y s → Course
    rejecting : Rejects p y → Course

  -- after stage r, the next stages being told
  course-next : (r : ℕ) → r ≤ p.nested → Entered p y r
      → (1 ≤ unsettled p (after_stage p y r) → unsettled p (after_stage p y r) ≤ p.nested - r → Course) → Course
  course-next r low f later =
      go (ℕ_discrete (unsettled p (after_stage p y r)) 0) (dec_lt (p.nested - r) (unsettled p (after_stage p y r)))
      (codeword? p (after_stage p y r).block)
    where
      over : unsettled p (after_stage p y r) ≡ 0 → Over p y r
      over z = record { low = low; entered = f; none_left = z }

      go : Dec (unsettled p (after_stage p y r) ≡ 0) → Dec (p.nested - r < unsettled p (after_stage p y r))
          → Dec (Codeword p (after_stage p y r).block) → Course
      go (yes z) d (yes c) = accepting _ _ (record { last = r; over = over z; block = refl; says = refl; code = c })
      go (yes z) d (no c) = rejecting (record { last = r; over = over z; no_code = c })
      go (no z) (yes d) c = failing r (record { low = low; entered = f; many = d })
      go (no z) (no d) c = later (omega arith) (omega arith)

  course-from : (left r : ℕ) → r + left ≡ p.nested → Entered p y r → Course
  course-from zero r e f = course-next r (omega arith) f (λ a b. absurd (omega arith))
  course-from (suc left) r e f =
      course-next r (omega arith) f (λ a b. course-from left (suc r) (omega arith) (up_to _ r f (a, b)))

  pub course : Course
  course = course-from p.nested 0 (omega arith) (λ q l. absurd (omega arith))

  -- every subword is settled just where decoding is over
  pub settled_course : (r : ℕ) (g : Progress) → stages p p.nested 0 (start p y) ≡ settled r g
      → Over p y r × (g ≡ after_stage p y r)
  settled_course r g e = go course
    where
      over : (s : ℕ) → Over p y s → Over p y r × (g ≡ after_stage p y r)
      over s o =
          let x : settled s (after_stage p y s) ≡ settled r g = sym (stages-settled s o) ∙ e in
          let u : s ≡ r = cc in
          let v : after_stage p y s ≡ g = cc in
          (rw u at o, sym v ∙ ap (after_stage p y) u)

      go : Course → Over p y r × (g ≡ after_stage p y r)
      go (accepting c z a) = over a.last a.over
      go (failing s f) =
          let x : stopped s (after_stage p y s) ≡ settled r g = sym (stages-stopped s f) ∙ e in
          let z : ◌≡◌ {A = ℕ} 0 1 = cc in
          absurd (omega arith)
      go (rejecting a) = over a.last a.over

  pub accepted_course : (d : Series) (x : Report) → decode p y ≡ accepted d x ↔ Accepts p y d x
  accepted_course d x = (go course, accepts d x)
    where
      go : Course → decode p y ≡ accepted d x → Accepts p y d x
      go (accepting c z a) e =
          let s : accepted c z ≡ accepted d x = sym (accepts c z a) ∙ e in
          let u : c ≡ d = cc in
          let v : z ≡ x = cc in
          rw u at (rw v at a)
      go (failing s f) e = absurd (omega (arith, ap outcome_number (sym (fails s f) ∙ e)))
      go (rejecting f) e = absurd (omega (arith, ap outcome_number (sym (rejects f) ∙ e)))

  pub failed_course : (s : ℕ) → decode p y ≡ failed s ↔ Fails p y s
  failed_course s = (go course, fails s)
    where
      go : Course → decode p y ≡ failed s → Fails p y s
      go (accepting c z a) e = absurd (omega (arith, ap outcome_number (sym (accepts c z a) ∙ e)))
      go (failing t f) e =
          let q : failed t ≡ failed s = sym (fails t f) ∙ e in
          let u : t ≡ s = cc in
          rw u at f
      go (rejecting f) e = absurd (omega (arith, ap outcome_number (sym (rejects f) ∙ e)))

  pub foreign_course : decode p y ≡ foreign ↔ Rejects p y
  foreign_course = (go course, rejects)
    where
      go : Course → decode p y ≡ foreign → Rejects p y
      go (accepting c z a) e = absurd (omega (arith, ap outcome_number (sym (accepts c z a) ∙ e)))
      go (failing s f) e = absurd (omega (arith, ap outcome_number (sym (fails s f) ∙ e)))
      go (rejecting f) e = f
