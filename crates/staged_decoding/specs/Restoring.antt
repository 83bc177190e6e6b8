-- A written block is restored: FORMAT 6.11.
--
-- Proved: what was received comes back as the codeword that was written, if it is restorable (restoring,
-- restoring-bytes); so it does if no subword has more than t0 changes (restoring-within). Where no mistake is made the
-- outcome is never foreign (not-foreign).
use Rattle.std.specs.Prelude.{ℕ, suc, ◌≤◌, ◌<◌, ◌≡◌, ◌≢◌, List, length}
use Rattle.std.proofs.Math.Path.{sym, ap, fun_ext}
use Rattle.std.proofs.Common.{◌∙◌, arith, le-ltb}
use Rattle.std.proofs.Math.Option.{some, get_or}
use Rattle.std.proofs.Math.Decide.{dec_lt}
use Rattle.field.specs.Field.{of, of_zero}
use Rattle.series.specs.Series.{Series}
use Rattle.series.specs.Degree.{below}
use Rattle.series.specs.Array.{bytes, below-read}
use Rattle.profile.specs.declared.Profile.{Profile}
use Rattle.profile.specs.Definition.{capability, block_size}
use Rattle.profile.specs.Valid.{Valid, capability_mono}
use Rattle.code.specs.Definition.{Codeword}
use Rattle.code.specs.Block.{Agree, block-agree, codeword_cong}
use Rattle.staged_decoding.specs.Definition.{count_of, Line, line_of, clean_line, line_at, Report, report}
use Rattle.staged_decoding.specs.Definition.{accepted, foreign, decode, differences, bit_differences}
use Rattle.staged_decoding.specs.Count.{none-count, total_cong}
use Rattle.staged_decoding.specs.Stage.{verdict_at-is}
use Rattle.staged_decoding.specs.Course.{after_stage, Over, Accepts, Course, accepting, failing, rejecting}
use Rattle.staged_decoding.specs.Course.{course, accepted_course, foreign_course}
use Rattle.staged_decoding.specs.Sound.{line_there}
use Rattle.staged_decoding.specs.Accepted.{accepted-past}
use Rattle.staged_decoding.specs.Restorable.{beyond, Reached, Unmistaken, Restorable, Restored}
use Rattle.staged_decoding.specs.Fate.{Done, fates_after, unsettled-beyond, entered_reached}

module _ (p : Profile) (ok : Valid p) (c y : Series) (u : Unmistaken p c y) where
  -- every subword is settled after stage s
  module _ (s : ℕ) (over : Over p y s) where
    reached : Reached p c y s
    reached = entered_reached p ok c y u s over.low over.entered

    done : (i : ℕ) → i < p.subwords
        → (l : Line) × ((after_stage p y s).line i ≡ some l) × Done p c y (suc s) (after_stage p y s) i l
    done i h =
        let (l, f) = line_there p (after_stage p y s) over.none_left i h in
        (l, f, rw f at (fates_after p ok c y u s over.low reached i h))

    agrees : Agree p 0 (after_stage p y s).block c
    agrees i z h q l = (done i h).2.same q l

    line_is : (i : ℕ) (h : i < p.subwords)
        → line_at (after_stage p y s) i
        ≡ line_of (done i h).2.stage (differences p y c i) (bit_differences p y c i)
    line_is i h = ap (λ o. get_or o clean_line) (done i h).1 ∙ (done i h).2.line_is

    restored : Restored p c y (report p s (after_stage p y s))
    unfolding report
    restored = record {
      line = λ i h. ((done i h).2.stage, (done i h).2.least, line_is i h);
      changed = total_cong p.subwords _ _
          (λ i h. ap (λ (l : Line). count_of l.verdict) (line_is i h)
          ∙ (verdict_at-is (done i h).2.stage (differences p y c i)).0);
      bits = total_cong p.subwords _ _ (λ i h. ap (λ (l : Line). l.bits) (line_is i h));
      last = (over.low, reached, sym (unsettled-beyond p ok c y u s over.low reached) ∙ over.none_left);
    }

  pub not-foreign : decode p y ≢ foreign
  not-foreign e =
      let f = (foreign_course p y).0 e in
      f.no_code (codeword_cong p c _ (λ i z h q l. sym (agrees f.last f.over i z h q l)) u.written)

  -- an accepted block is the written one
  pub accepted_restores : ((a : ℕ) → block_size p ≤ a → y a ≡ c a) → (d : Series) (x : Report)
      → decode p y ≡ accepted d x
      → (decode p y ≡ accepted c x) × Restored p c y x
  accepted_restores past d x e =
      let a = (accepted_course p y d x).0 e in
      let d-is : d ≡ c = fun_ext (λ k. same a k (dec_lt k (block_size p))) in
      (e ∙ ap (λ s. accepted s x) d-is, rw a.says (restored a.last a.over))
    where
      same : Accepts p y d x → (k : ℕ) → Dec (k < block_size p) → d k ≡ c k
      same a k (yes l) = ap (λ (s : Series). s k) a.block ∙ block-agree p _ c (agrees a.last a.over) k l
      same a k (no l) = accepted-past p y d x e k (omega arith) ∙ past k (omega arith)

-- The promise of restoring. What stands past the first m × n symbols is not looked at, so it has to be the same from
-- the start.
pub restoring : (p : Profile) → Valid p → (c y : Series) → ((a : ℕ) → block_size p ≤ a → y a ≡ c a) → Restorable p c y
    → (x : Report) × (decode p y ≡ accepted c x) × Restored p c y x
restoring p ok c y past r = go (course p y)
  where
    go : Course p y → (x : Report) × (decode p y ≡ accepted c x) × Restored p c y x
    go (accepting d x a) =
        let (e, f) = accepted_restores p ok c y r.unmistaken past d x ((accepted_course p y d x).1 a) in
        (x, e, f)
    go (failing s f) =
        let reached : Reached p c y s = entered_reached p ok c y r.unmistaken s f.low f.entered in
        absurd (omega (arith, f.many, unsettled-beyond p ok c y r.unmistaken s f.low reached, r.few s f.low))
    go (rejecting f) = absurd (not-foreign p ok c y r.unmistaken ((foreign_course p y).1 f))

pub restoring-bytes : (p : Profile) → Valid p → (c y : List ℕ) → length c ≡ block_size p → length y ≡ block_size p
    → Restorable p (bytes c) (bytes y)
    → (x : Report) × (decode p (bytes y) ≡ accepted (bytes c) x) × Restored p (bytes c) (bytes y) x
restoring-bytes p ok c y lc ly =
    restoring p ok (bytes c) (bytes y) (λ a h. zero y a (omega arith) ∙ sym (zero c a (omega arith)))
  where
    zero : (l : List ℕ) → below (length l) (bytes l)
    zero = below-read of 0 of_zero

-- ---- within the first capability

beyond-none : (p : Profile) → Valid p → (c y : Series)
    → ((i : ℕ) → i < p.subwords → differences p y c i ≤ capability p 0)
    → (r : ℕ) → r ≤ p.nested → beyond p c y r ≡ 0
unfolding beyond
beyond-none p ok c y h r low =
    let rise : capability p 0 ≤ capability p r = capability_mono p ok 0 r (omega arith) low in
    none-count p.subwords _ (λ i l. le-ltb (capability p r) (differences p y c i) (omega (arith, h i l)))

pub within_restorable : (p : Profile) → Valid p → (c y : Series) → Codeword p c
    → ((i : ℕ) → i < p.subwords → differences p y c i ≤ capability p 0) → Restorable p c y
within_restorable p ok c y code h = record {
  unmistaken = record {
    written = code;
    never = λ r low reached i l over. absurd (omega (arith, h i l, capability_mono p ok 0 r (omega arith) low));
  };
  few = λ r low. omega (arith, beyond-none p ok c y h r low);
}

-- every subword within t0: no other condition
pub restoring-within : (p : Profile) → Valid p → (c y : Series)
    → ((a : ℕ) → block_size p ≤ a → y a ≡ c a) → Codeword p c
    → ((i : ℕ) → i < p.subwords → differences p y c i ≤ capability p 0)
    → (x : Report) × (decode p y ≡ accepted c x) × Restored p c y x × (x.last ≡ 0)
restoring-within p ok c y past code h =
    let (x, e, f) = restoring p ok c y past (within_restorable p ok c y code h) in
    (x, e, f, first x f (dec_lt 0 x.last))
  where
    first : (x : Report) → Restored p c y x → Dec (0 < x.last) → x.last ≡ 0
    first x f (yes l) = absurd (omega (arith, (f.last.1 0 l).0, beyond-none p ok c y h 0 (omega arith)))
    first x f (no l) = omega arith
