-- What is wrong with a block that is refused as foreign: its nested words.
--
-- Proved, for a valid profile: once every subword is settled each is in the code of capability t0 (settled_in-code,
-- settled-subwords), so without nested words no block is foreign (never-foreign).
use Prim.Native.Nat.{ℕ, zero, suc, ◌*◌, ◌≤◌, ◌<◌}
use Rattle.std.specs.Prelude.{◌≡◌, ◌≢◌}
use Rattle.std.proofs.Common.{sym, ◌∙◌, arith, lt-ltb}
use Rattle.std.proofs.Math.Path.{ap}
use Rattle.field.specs.Field.{F, ◌⊕◌, ⊕_self, ⊕_self-left}
use Rattle.series.specs.Series.{Series}
use Rattle.series.specs.Shift.{cut_low}
use Rattle.profile.specs.declared.Profile.{Profile}
use Rattle.profile.specs.Definition.{capability, first-root}
use Rattle.profile.specs.Valid.{Valid, capability_mono}
use Rattle.code.specs.Definition.{syndrome_of, InCodeOf, subword}
use Rattle.code.specs.Check.{Subwords}
use Rattle.staged_decoding.specs.Definition.{Progress, start, settled, stages, foreign, decode}
use Rattle.staged_decoding.specs.Stage.{stage-row}
use Rattle.staged_decoding.specs.Round.{extend-low}
use Rattle.staged_decoding.specs.Course.{before_stage, after_stage, Over, settled_course, foreign_course}
use Rattle.staged_decoding.specs.Differences.{syndrome-sum-block}
use Rattle.staged_decoding.specs.Sound.{Settled, sound-after, line_there}

module _ (p : Profile) (ok : Valid p) (y : Series) where
  -- the first syndromes are the received ones throughout
  row_first : (r : ℕ) → r ≤ p.nested → (i j : ℕ) → i < p.subwords → j < 2 * capability p 0
      → (after_stage p y r).row i j ≡ syndrome_of p (subword p.length y i) j
  unfolding before_stage start
  row_first zero low i j h l =
      ap (λ (s : ℕ → Series). s i j) (stage-row p 0 (start p y))
      ∙ rw (lt-ltb i p.subwords h) (cut_low (2 * capability p 0) _ j l)
  row_first (suc r) low i j h l =
      ap (λ (s : ℕ → Series). s i j) (stage-row p (suc r) (before_stage p y (suc r)))
      ∙ extend-low p _ _ (after_stage p y r) i j (omega (arith, capability_mono p ok 0 r (omega arith) (omega arith)))
      ∙ row_first r (omega arith) i j h l

  pub settled_in-code : (s : ℕ) → Over p y s → (i : ℕ) → i < p.subwords
      → InCodeOf p (capability p 0) (subword p.length (after_stage p y s).block i)
  settled_in-code s over i h j l =
      let (line, f) = line_there p (after_stage p y s) over.none_left i h in
      let x : Settled p y (suc s) (after_stage p y s) i line = rw f at (sound-after p y s i h) in
      let rise : capability p 0 ≤ capability p x.stage =
      capability_mono p ok 0 x.stage (omega arith) (omega (arith, x.passed, over.low)) in
      let added : S y ⊕ S (after_stage p y s).block ≡ S y =
      sym (syndrome-sum-block (first-root p) p.length y (after_stage p y s).block i j)
      ∙ x.explained.syndromes j (omega arith)
      ∙ row_first s over.low i j h l in
      sym (⊕_self-left (S y) _) ∙ ap (λ t. S y ⊕ t) added ∙ ⊕_self (S y)
    where
      S : Series → F
      S b = syndrome_of p (subword p.length b i) j

  -- the same where the stages end
  pub settled-subwords : (r : ℕ) (g : Progress)
      → stages p p.nested 0 (start p y) ≡ settled r g → Subwords p g.block
  settled-subwords r g e = let (over, is) = settled_course p y r g e in rw is (settled_in-code r over)

  pub never-foreign : p.nested ≡ 0 → decode p y ≢ foreign
  never-foreign z e =
      let f = (foreign_course p y).0 e in
      f.no_code (record { subwords = settled_in-code f.last f.over; nested_words = λ l h. absurd (omega arith) })
