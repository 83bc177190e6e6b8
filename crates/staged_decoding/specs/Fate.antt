-- What becomes of each subword if no mistake is made.
--
--   Done p c y r g i l   subword i was settled before stage r, as it was written, and l is its line
--   Due p c y r k g i    it has more changes than each stage before r allows, its received symbols, and the changes'
--                        syndromes below k in its row
--   Fates p c y r k g    for every subword one of the two, by its line
--
-- Proved, where `Unmistaken`: the fates hold before and after each stage that is reached (fates_before, fates_after);
-- the unsettled subwords are then those beyond (unsettled-beyond); a stage is reached exactly if it is entered
-- (reached-entered, entered_reached).
use Prim.Native.Nat.{ℕ, zero, suc, ◌-◌, ◌*◌, ◌≤◌, ◌<◌}
use Rattle.std.specs.Prelude.{◌≡◌, Bool, false, cond}
use Rattle.std.proofs.Math.Path.{refl, sym, ap}
use Rattle.std.proofs.Common.{ap₂, ◌∙◌, arith, lt-ltb, le-ltb}
use Rattle.std.proofs.Math.Logic.{by_cases}
use Rattle.std.proofs.Math.Bool.{true}
use Rattle.std.proofs.Math.Option.{Option, none, some}
use Rattle.std.proofs.Math.Decide.{dec_lt}
use Rattle.field.specs.Field.{F, 𝟎, α, ◌⊕◌, ◌⊙◌, pow, ⊕_comm, ⊕-zero, zero-⊕, ⊕_self-left, ⊙-zero, ⊙-⊕}
use Rattle.series.specs.Sum.{sum, sum_cong, sum-⊕}
use Rattle.series.specs.Series.{Series, ◌⊞◌}
use Rattle.series.specs.Shift.{cut_low}
use Rattle.series.specs.Word.{word, entry-word}
use Rattle.profile.specs.declared.Profile.{Profile}
use Rattle.profile.specs.Definition.{capability, first-root}
use Rattle.profile.specs.Valid.{Valid, capability_mono}
use Rattle.code.specs.Systematic.{syndrome_cong}
use Rattle.code.specs.Definition.{syndrome_of, subword, nested}
use Rattle.code.specs.Block.{syndrome-nested}
use Rattle.settling.specs.Definition.{Explains}
use Rattle.settling.specs.Settle.{settle-one, settle_cong}
use Rattle.staged_decoding.specs.Definition.{count, nth, Line, line_of, Progress, start, unsettled_line, open?}
use Rattle.staged_decoding.specs.Definition.{unsettled, found, stage, fresh, window, extend, round, differences}
use Rattle.staged_decoding.specs.Definition.{bit_differences}
use Rattle.staged_decoding.specs.Count.{count_cong, rank_lt, nth_rank, nth-sum}
use Rattle.staged_decoding.specs.Stage.{found_open, found-settled, stage-row}
use Rattle.staged_decoding.specs.Stage.{stage-line, stage-subword, stage_stays}
use Rattle.staged_decoding.specs.Round.{window-low, window_in, extend_open, Meets, system_unique}
use Rattle.staged_decoding.specs.Course.{before_stage, after_stage, Entered, up_to}
use Rattle.staged_decoding.specs.Differences.{subword-⊞, syndrome-sum-block, differences-weight}
use Rattle.staged_decoding.specs.Differences.{line_by_cong, line_by_differs}
use Rattle.staged_decoding.specs.Restorable.{beyond?, beyond, Reached, Unmistaken, Least}

pub record Done (p : Profile) (c y : Series) (r : ℕ) (g : Progress) (i : ℕ) (l : Line) : Type 0 where
  pub stage : ℕ
  pub passed : stage < r
  pub least : Least p c y i stage
  pub line_is : l ≡ line_of stage (differences p y c i) (bit_differences p y c i)
  pub same : (q : ℕ) → q < p.length → subword p.length g.block i q ≡ subword p.length c i q

pub record Due (p : Profile) (c y : Series) (r k : ℕ) (g : Progress) (i : ℕ) : Type 0 where
  pub over : (q : ℕ) → q < r → capability p q < differences p y c i
  pub same : (q : ℕ) → q < p.length → subword p.length g.block i q ≡ subword p.length y i q
  pub row_is : (j : ℕ) → j < k → g.row i j ≡ syndrome_of p (subword p.length (y ⊞ c) i) j

abbrev pub Fate : Profile → Series → Series → ℕ → ℕ → Progress → ℕ → Option Line → Type 0
Fate p c y r k g i none = Due p c y r k g i
Fate p c y r k g i (some l) = Done p c y r g i l

abbrev pub Fates : Profile → Series → Series → ℕ → ℕ → Progress → Type 0
Fates p c y r k g = (i : ℕ) → i < p.subwords → Fate p c y r k g i (g.line i)

module _ (p : Profile) (ok : Valid p) (c y : Series) (u : Unmistaken p c y) where
  abbrev n : ℕ
  n = p.length

  -- what was changed in subword i, and its syndromes
  abbrev error : ℕ → Series
  error i = subword n (y ⊞ c) i

  abbrev S : ℕ → Series
  S i = syndrome_of p (error i)

  -- ---- the start

  start_fates : Fates p c y 0 (2 * capability p 0) (start p y)
  unfolding start
  start_fates i h = record {
    over = λ q l. absurd (omega arith);
    same = λ q l. refl;
    row_is = λ j l.
        rw (lt-ltb i p.subwords h)
        (cut_low (2 * capability p 0) _ j l
        ∙ sym (syndrome-sum-block (first-root p) n y c i j
        ∙ ap (λ t. syndrome_of p (subword n y i) j ⊕ t) (u.written.subwords i h j l) ∙ ⊕-zero _));
  }

  -- ---- a stage

  module _ (r : ℕ) (low : r ≤ p.nested) (reached : Reached p c y r) (g : Progress) (i : ℕ) (h : i < p.subwords) where
    abbrev Next : Type 0
    Next = Fate p c y (suc r) (2 * capability p r) (stage p r g) i ((stage p r g).line i)

    module _ (e : g.line i ≡ none) (d : Due p c y r (2 * capability p r) g i) where
      -- more changes than allowed
      beyond_stays : capability p r < differences p y c i → Next
      beyond_stays over =
          let f : found p r g i ≡ none =
          found_open p r g i e ∙ settle_cong (first-root p) (capability p r) n _ _ d.row_is
          ∙ u.never r low reached i h over in
          rw (stage-line p r g i h none none e f) (record {
            over = up_to (λ q. capability p q < differences p y c i) r d.over over;
            same = λ q l. stage_stays p r g i h f q l ∙ d.same q l;
            row_is = λ j l. ap (λ (s : ℕ → Series). s i j) (stage-row p r g) ∙ d.row_is j l;
          })

      -- not more
      within_settles : differences p y c i ≤ capability p r → Next
      within_settles within =
          let x : Explains (first-root p) (capability p r) n (g.row i) (error i) =
          record { within = omega (arith, differences-weight p y c i); syndromes = λ j l. sym (d.row_is j l) } in
          let f : found p r g i ≡ some (word n (error i)) =
          found_open p r g i e ∙ settle-one (first-root p) (capability p r) n (g.row i) (error i) ok.length.1 x in
          rw (stage-line p r g i h none (some (word n (error i))) e f) (record {
            stage = r;
            passed = omega arith;
            least = record { within = within; over = d.over };
            line_is = line_by_cong n r _ _ (entry-word n (error i)) ∙ line_by_differs p r y c i;
            same = λ q l.
                stage-subword p r g i h (some (word n (error i))) f q l
                ∙ ap₂ ◌⊕◌ (d.same q l) (entry-word n (error i) q l ∙ subword-⊞ n y c i q)
                ∙ ⊕_self-left _ _;
          })

    stage_fate : Fate p c y r (2 * capability p r) g i (g.line i) → Next
    stage_fate t = go (g.line i) refl t
      where
        go : (o : Option Line) → g.line i ≡ o → Fate p c y r (2 * capability p r) g i o → Next
        go none e d = by_cases (dec_lt (capability p r) (differences p y c i)) (beyond_stays e d)
            (λ l. within_settles e d (omega arith))
        go (some l) e d =
            let f : found p r g i ≡ none = found-settled p r g i l e in
            rw (stage-line p r g i h (some l) none e f) (record {
              stage = d.stage;
              passed = omega (arith, d.passed);
              least = d.least;
              line_is = d.line_is;
              same = λ q m. stage_stays p r g i h f q m ∙ d.same q m;
            })

  -- ---- the unsettled subwords

  module _ (r k : ℕ) (low : r ≤ p.nested) (g : Progress) (f : Fates p c y (suc r) k g) where
    open-beyond : (i : ℕ) → i < p.subwords → open? g i ≡ beyond? p c y r i
    open-beyond i h = go (g.line i) (f i h)
      where
        go : (o : Option Line) → Fate p c y (suc r) k g i o → unsettled_line o ≡ beyond? p c y r i
        go none d = sym (lt-ltb (capability p r) (differences p y c i) (d.over r (omega arith)))
        go (some l) d =
            let rise : capability p d.stage ≤ capability p r =
            capability_mono p ok d.stage r (omega (arith, d.passed)) low in
            sym (le-ltb (capability p r) (differences p y c i) (omega (arith, d.least.within)))

    open-count : unsettled p g ≡ beyond p c y r
    unfolding unsettled beyond
    open-count = count_cong p.subwords _ _ open-beyond

    -- ---- a round

    -- a subword's syndromes, as far as corrected: the written one's, and those of the changes that are still there
    corrected-syndrome : (i : ℕ) → i < p.subwords → (j : ℕ)
        → syndrome_of p (subword n g.block i) j ≡ syndrome_of p (subword n c i) j ⊕ cond (open? g i) (S i j) 𝟎
    corrected-syndrome i h j = go (g.line i) (f i h)
      where
        go : (o : Option Line) → Fate p c y (suc r) k g i o
            → syndrome_of p (subword n g.block i) j
            ≡ syndrome_of p (subword n c i) j ⊕ cond (unsettled_line o) (S i j) 𝟎
        go none d =
            syndrome_cong (first-root p) n _ _ d.same j
            ∙ sym (ap (λ t. syndrome_of p (subword n c i) j ⊕ t)
            (syndrome-sum-block (first-root p) n y c i j ∙ ⊕_comm _ _)
            ∙ ⊕_self-left _ _)
        go (some l) d = syndrome_cong (first-root p) n _ _ d.same j ∙ sym (⊕-zero _)

    -- so a nested word's syndromes are those of the changes that are still there
    nested-syndrome : (l j : ℕ) → l < p.nested → j < 2 * capability p (p.nested - l)
        → syndrome_of p (nested p g.block l) j ≡ sum p.subwords (λ i. cond (open? g i) (pow α (i * l) ⊙ S i j) 𝟎)
    nested-syndrome l j hl hj =
        syndrome-nested p g.block l j
        ∙ sum_cong p.subwords _ _ (λ i h. ap (λ t. pow α (i * l) ⊙ t) (corrected-syndrome i h j) ∙ ⊙-⊕ _ _ _)
        ∙ sum-⊕ p.subwords _ _
        ∙ ap₂ ◌⊕◌ (sym (syndrome-nested p c l j) ∙ u.written.nested_words l hl j hj)
        (sum_cong p.subwords _ _ (λ i h. inside (open? g i) _ _))
        ∙ zero-⊕ _
      where
        inside : (b : Bool) (x z : F) → x ⊙ cond b z 𝟎 ≡ cond b (x ⊙ z) 𝟎
        inside true x z = refl
        inside false x z = ⊙-zero x

    fresh-right : r < p.nested → unsettled p g ≤ p.nested - r → (i : ℕ) → i < p.subwords → g.line i ≡ none
        → (j : ℕ) → j < 2 * capability p (suc r) → fresh p g i j ≡ S i j
    unfolding fresh unsettled
    fresh-right more few i h e j l =
        let o : open? g i ≡ true = ap unsettled_line e in
        system_unique p ok g j (λ w. S (nth p.subwords (open? g) w) j) meets (count i (open? g))
        (rank_lt p.subwords (open? g) i h o)
        ∙ ap (λ t. S t j) (nth_rank p.subwords (open? g) i h o)
      where
        meets : Meets p g j (λ w. S (nth p.subwords (open? g) w) j)
        meets t m =
            let rise : capability p (suc r) ≤ capability p (p.nested - t) =
            capability_mono p ok (suc r) (p.nested - t) (omega arith) (omega arith) in
            nth-sum p.subwords (open? g) (λ i. pow α (i * t) ⊙ S i j)
            ∙ sym (nested-syndrome t j (omega arith) (omega arith))

  round_fates : (r : ℕ) (g : Progress) → r < p.nested → unsettled p g ≤ p.nested - r
      → Fates p c y (suc r) (2 * capability p r) g
      → Fates p c y (suc r) (2 * capability p (suc r)) (round p r g)
  unfolding extend
  round_fates r g more few f i h = go (g.line i) refl (f i h)
    where
      go : (o : Option Line) → g.line i ≡ o → Fate p c y (suc r) (2 * capability p r) g i o
          → Fate p c y (suc r) (2 * capability p (suc r)) (round p r g) i o
      go (some l) e d =
          record { stage = d.stage; passed = d.passed; least = d.least; line_is = d.line_is; same = d.same }
      go none e d = record {
        over = d.over;
        same = d.same;
        row_is = λ j l. ap (λ s. s j) (extend_open p _ _ g i h e) ∙ known j l (dec_lt j (2 * capability p r));
      }
        where
          known : (j : ℕ) → j < 2 * capability p (suc r) → Dec (j < 2 * capability p r)
              → window (2 * capability p r) (2 * capability p (suc r)) (fresh p g i) (g.row i) j ≡ S i j
          known j l (yes q) = window-low _ _ (fresh p g i) (g.row i) j q ∙ d.row_is j q
          known j l (no q) = window_in _ _ (fresh p g i) (g.row i) j (omega arith) l
              ∙ fresh-right r _ (omega arith) g f more few i h e j l

  -- ---- every stage that is reached

  pub fates_before : (r : ℕ) → r ≤ p.nested → Reached p c y r → Fates p c y r (2 * capability p r) (before_stage p y r)
  unfolding before_stage
  fates_before zero low reached = start_fates
  fates_before (suc r) low reached =
      let earlier : Reached p c y r = λ q l. reached q (omega arith) in
      let f : Fates p c y (suc r) (2 * capability p r) (after_stage p y r) =
      λ i h. stage_fate r (omega arith) earlier (before_stage p y r) i h (fates_before r (omega arith) earlier i h) in
      round_fates r (after_stage p y r) low
      (omega (
        arith,
        open-count r (2 * capability p r) (omega arith) (after_stage p y r) f,
        (reached r (omega
            arith)).1,
      ))
      f

  pub fates_after : (r : ℕ) → r ≤ p.nested → Reached p c y r
      → Fates p c y (suc r) (2 * capability p r) (after_stage p y r)
  fates_after r low reached i h = stage_fate r low reached (before_stage p y r) i h (fates_before r low reached i h)

  pub unsettled-beyond : (r : ℕ) → r ≤ p.nested → Reached p c y r → unsettled p (after_stage p y r) ≡ beyond p c y r
  unsettled-beyond r low reached = open-count r _ low (after_stage p y r) (fates_after r low reached)

  pub reached-entered : (r : ℕ) → r ≤ p.nested → Reached p c y r → Entered p y r
  reached-entered r low reached q l =
      let e : unsettled p (after_stage p y q) ≡ beyond p c y q =
      unsettled-beyond q (omega arith) (λ a b. reached a (omega arith)) in
      rw e (reached q l)

  pub entered_reached : (r : ℕ) → r ≤ p.nested → Entered p y r → Reached p c y r
  entered_reached zero low entered = λ q l. absurd (omega arith)
  entered_reached (suc r) low entered =
      let reached : Reached p c y r = entered_reached r (omega arith) (λ q l. entered q (omega arith)) in
      up_to _ r reached (rw (unsettled-beyond r (omega arith) reached) at (entered r (omega arith)))
