-- What holds of each subword along the way, whatever was received.
--
--   Settled p y r g i l   subword i was settled at a stage before r: what was added to it has the syndromes of its row,
--                         and l is its line
--   Told p y r g i o      that, if the line o of subword i is there; else it has its received symbols
--   Sound p y r g         so for every subword
--
-- Proved: it holds before and after each stage (sound_before, sound-after); where no subword is left every one has its
-- line (line_there), which tells how it was settled (settled-line).
use Prim.Native.Nat.{ℕ, zero, suc, ◌≤◌, ◌<◌}
use Rattle.std.specs.Prelude.{◌≡◌, false, List}
use Rattle.std.proofs.Math.Path.{refl}
use Rattle.std.proofs.Common.{sym, ap, ◌∙◌, true≢false, arith}
use Rattle.std.proofs.Math.Option.{Option, none, some, get_or}
use Rattle.field.specs.Field.{F, ◌⊕◌, ⊕_self-left}
use Rattle.series.specs.Series.{Series, ◌⊞◌}
use Rattle.series.specs.Word.{entry}
use Rattle.profile.specs.declared.Profile.{Profile}
use Rattle.profile.specs.Definition.{capability, first-root}
use Rattle.code.specs.Definition.{subword}
use Rattle.settling.specs.Definition.{Explains}
use Rattle.settling.specs.Settle.{explains_cong}
use Rattle.staged_decoding.specs.Definition.{Line, line_by, clean_line, Progress, start, unsettled_line}
use Rattle.staged_decoding.specs.Definition.{open?, unsettled, found, stage, extend, line_at}
use Rattle.staged_decoding.specs.Count.{count_none}
use Rattle.staged_decoding.specs.Stage.{found-settled, found_some, stage-row}
use Rattle.staged_decoding.specs.Stage.{stage-line, stage-subword, stage_stays}
use Rattle.staged_decoding.specs.Round.{extend-settled}
use Rattle.staged_decoding.specs.Course.{before_stage, after_stage}
use Rattle.staged_decoding.specs.Differences.{subword-⊞, line_by_cong}

pub record Settled (p : Profile) (y : Series) (r : ℕ) (g : Progress) (i : ℕ) (l : Line) : Type 0 where
  pub stage : ℕ
  pub passed : stage < r
  pub explained : Explains (first-root p) (capability p stage) p.length (g.row i)
      (subword p.length (y ⊞ g.block) i)
  pub line_is : l ≡ line_by p.length stage (subword p.length (y ⊞ g.block) i)

abbrev pub Told : Profile → Series → ℕ → Progress → ℕ → Option Line → Type 0
Told p y r g i none = (q : ℕ) → q < p.length → subword p.length g.block i q ≡ subword p.length y i q
Told p y r g i (some l) = Settled p y r g i l

abbrev pub Sound : Profile → Series → ℕ → Progress → Type 0
Sound p y r g = (i : ℕ) → i < p.subwords → Told p y r g i (g.line i)

module _ (p : Profile) (y : Series) where
  abbrev n : ℕ
  n = p.length

  -- a settled subword stays as it is
  settled_stays : (r s : ℕ) (g h : Progress) (i : ℕ) (l : Line) → r ≤ s → h.row i ≡ g.row i
      → ((q : ℕ) → q < n → subword n h.block i q ≡ subword n g.block i q)
      → Settled p y r g i l → Settled p y s h i l
  settled_stays r s g h i l u rows same x = record {
    stage = x.stage;
    passed = omega (arith, x.passed);
    explained = rw rows (explains_cong (first-root p) (capability p x.stage) n (g.row i) _ _ sums x.explained);
    line_is = x.line_is ∙ line_by_cong n x.stage _ _ sums;
  }
    where
      sums : (q : ℕ) → q < n → subword n (y ⊞ g.block) i q ≡ subword n (y ⊞ h.block) i q
      sums q m = subword-⊞ n y g.block i q
          ∙ sym (subword-⊞ n y h.block i q ∙ ap (λ t. subword n y i q ⊕ t) (same q m))

  start-sound : Sound p y 0 (start p y)
  unfolding start
  start-sound i h = λ q l. refl

  -- ---- a stage

  module _ (r : ℕ) (g : Progress) (i : ℕ) (h : i < p.subwords) where
    row_is : (stage p r g).row i ≡ g.row i
    row_is = ap (λ (s : ℕ → Series). s i) (stage-row p r g)

    -- w is found for a subword with its received symbols
    settles : (w : List F) → found p r g i ≡ some w → ((q : ℕ) → q < n → subword n g.block i q ≡ subword n y i q)
        → Settled p y (suc r) (stage p r g) i (line_by n r (entry w))
    settles w e same = record {
      stage = r;
      passed = omega arith;
      explained =
          rw row_is (explains_cong (first-root p) (capability p r) n (g.row i) (entry w) _ sums
          (found_some p r g i w e).explains);
      line_is = line_by_cong n r (entry w) _ sums;
    }
      where
        sums : (q : ℕ) → q < n → entry w q ≡ subword n (y ⊞ (stage p r g).block) i q
        sums q l =
            sym
            (subword-⊞ n y (stage p r g).block i q
            ∙ ap (λ t. subword n y i q ⊕ t)
            (stage-subword p r g i h (some w) e q l ∙ ap (λ t. t ⊕ entry w q) (same q l))
            ∙ ⊕_self-left _ _)

    stage-told : Told p y r g i (g.line i) → Told p y (suc r) (stage p r g) i ((stage p r g).line i)
    stage-told t = go (g.line i) refl (found p r g i) refl t
      where
        go : (o : Option Line) → g.line i ≡ o → (w : Option (List F)) → found p r g i ≡ w → Told p y r g i o
            → Told p y (suc r) (stage p r g) i ((stage p r g).line i)
        go (some l) e w f t =
            let z : found p r g i ≡ none = found-settled p r g i l e in
            rw (stage-line p r g i h (some l) none e z)
            (settled_stays r (suc r) g (stage p r g) i l (omega arith) row_is (stage_stays p r g i h z) t)
        go none e none f t = rw (stage-line p r g i h none none e f) (λ q l. stage_stays p r g i h f q l ∙ t q l)
        go none e (some w) f t = rw (stage-line p r g i h none (some w) e f) (settles w f t)

  -- ---- a round

  round-told : (r a b : ℕ) (g : Progress) (i : ℕ) → Told p y r g i (g.line i)
      → Told p y r (extend p a b g) i ((extend p a b g).line i)
  unfolding extend
  round-told r a b g i t = go (g.line i) refl t
    where
      go : (o : Option Line) → g.line i ≡ o → Told p y r g i o → Told p y r (extend p a b g) i o
      go none e t = t
      go (some l) e t =
          settled_stays r r g (extend p a b g) i l (omega arith) (extend-settled p a b g i l e) (λ q m. refl) t

  -- ---- every stage

  pub sound_before : (r : ℕ) → Sound p y r (before_stage p y r)
  unfolding before_stage
  sound_before zero = start-sound
  sound_before (suc r) =
      λ i h. round-told (suc r) _ _ (after_stage p y r) i (stage-told r (before_stage p y r) i h (sound_before r i h))

  pub sound-after : (r : ℕ) → Sound p y (suc r) (after_stage p y r)
  sound-after r i h = stage-told r (before_stage p y r) i h (sound_before r i h)

-- no subword is left
pub line_there : (p : Profile) (g : Progress) → unsettled p g ≡ 0 → (i : ℕ) → i < p.subwords
    → (l : Line) × (g.line i ≡ some l)
unfolding unsettled
line_there p g e i h = go (g.line i) refl (count_none p.subwords (open? g) e i h)
  where
    go : (o : Option Line) → g.line i ≡ o → open? g i ≡ false → (l : Line) × (g.line i ≡ some l)
    go none f z = absurd (true≢false (sym (ap unsettled_line f) ∙ z))
    go (some l) f z = (l, f)

pub settled-line : (p : Profile) (y : Series) (r : ℕ) → unsettled p (after_stage p y r) ≡ 0 → (i : ℕ) → i < p.subwords
    → Settled p y (suc r) (after_stage p y r) i (line_at (after_stage p y r) i)
settled-line p y r e i h =
    let (l, f) = line_there p (after_stage p y r) e i h in
    rw (ap (λ o. get_or o clean_line) f) (rw f at (sound-after p y r i h))
