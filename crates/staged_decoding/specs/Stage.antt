-- Laws of a stage: what it does for each subword.
--
--   pattern w            the pattern found, as a series; zeros if none was
--   line_after r n o w   the line of a subword after stage r, o being its line before and w the pattern found
--
-- Proved: the count and stage of a verdict (verdict_at-is); a pattern added to a subword changes no other (add_same,
-- add-other) and nothing past the block (add-past); what is found explains the row of an unsettled subword
-- (found_some), and a settled one stays (found-settled); a step is to do nothing or to take the pattern (step-none,
-- step-some); a stage is that for every subword (stage-line, stage-subword, stage_stays), and leaves the rows
-- (stage-row) and all that is no subword's (stage-past, stage-line-past).
use Prim.Native.Nat.{ℕ, zero, suc, ◌+◌, ◌-◌, ◌*◌, ◌≤◌, ◌<◌}
use Rattle.std.specs.Prelude.{◌≡◌, ◌≢◌, cond, List, length}
use Rattle.std.proofs.Math.Path.{refl, ap, ap₂}
use Rattle.std.proofs.Common.{sym, ◌∙◌, suc-mul, mul-le-mul_right, add-one, arith, ne_eqb}
use Rattle.std.proofs.Math.Logic.{if_pos, if_neg}
use Rattle.std.proofs.Math.Option.{Option, none, some, none-ne-some}
use Rattle.std.proofs.Math.Decide.{dec_lt, ℕ_discrete}
use Rattle.field.specs.Field.{F, 𝟎, ◌⊕◌, ⊕-zero}
use Rattle.series.specs.Series.{Series, O, O-at, ◌⊠◌, ⊞-at}
use Rattle.series.specs.Shift.{zpow, zpow-at, zpow-low}
use Rattle.series.specs.Degree.{below}
use Rattle.series.specs.Word.{entry, entry_past}
use Rattle.profile.specs.declared.Profile.{Profile}
use Rattle.profile.specs.Definition.{capability, first-root, block_size}
use Rattle.code.specs.Definition.{subword}
use Rattle.code.specs.Block.{subword-at}
use Rattle.settling.specs.Definition.{Explains}
use Rattle.settling.specs.Settle.{settle-some}
use Rattle.staged_decoding.specs.Definition.{put, each, corrected, verdict_at, count_of, stage_of, Line, line_by}
use Rattle.staged_decoding.specs.Definition.{add, Progress, unsettled_line, settle_at, found, correct, step}
use Rattle.staged_decoding.specs.Definition.{stage}

-- ---- progress, part by part

pub progress-equal : {g h : Progress} → g.block ≡ h.block → g.line ≡ h.line → g.row ≡ h.row → g ≡ h
progress-equal x y z = λ i. record { block = x i; line = y i; row = z i }

-- a loop over the subwords
pub each_none : {A : Type 0} (f : ℕ → A → A) (a : A) → each 0 f a ≡ a
unfolding each
each_none f a = refl

pub each_more : {A : Type 0} (k : ℕ) (f : ℕ → A → A) (a : A) → each (k + 1) f a ≡ f k (each k f a)
unfolding each
each_more k f a = rw add-one

-- ---- verdicts

pub verdict_later : (r k : ℕ) → r ≢ 0 → verdict_at r k ≡ corrected k r
verdict_later r k h = rw (ne_eqb r 0 h)

pub verdict-first : (k : ℕ) → k ≢ 0 → verdict_at 0 k ≡ corrected k 0
verdict-first k h = rw (ne_eqb k 0 h)

-- a verdict's count and stage are those it was made of
pub verdict_at-is : (r k : ℕ) → (count_of (verdict_at r k) ≡ k) × (stage_of (verdict_at r k) ≡ r)
verdict_at-is r k = go (ℕ_discrete r 0) (ℕ_discrete k 0)
  where
    go : Dec (r ≡ 0) → Dec (k ≡ 0) → (count_of (verdict_at r k) ≡ k) × (stage_of (verdict_at r k) ≡ r)
    go (yes e) (yes f) = rw (e, f) (refl, refl)
    go (yes e) (no f) = rw (e, verdict-first k f) (refl, refl)
    go (no e) f = rw (verdict_later r k e) (refl, refl)

-- ---- one value of a function

pub put_same : {A : Type 0} (i : ℕ) (x : A) (f : ℕ → A) → put i x f i ≡ x
unfolding put
put_same i x f = if_pos (ℕ_discrete i i) refl x (f i)

pub put_other : {A : Type 0} (i : ℕ) (x : A) (f : ℕ → A) (k : ℕ) → k ≢ i → put i x f k ≡ f k
unfolding put
put_other i x f k h = if_neg (ℕ_discrete k i) h x (f k)

-- ---- a pattern added to a subword

add_at : (n i : ℕ) (e s : Series) (a : ℕ) → add n i e s a ≡ s a ⊕ (zpow (i * n) ⊠ e) a
unfolding add
add_at n i e s a = ⊞-at s _ a

-- past the subword
past : (n i : ℕ) (e : Series) → below n e → (a : ℕ) → i * n + n ≤ a → (zpow (i * n) ⊠ e) a ≡ 𝟎
past n i e b a h =
    let f : a ≡ i * n + (a - i * n) = omega arith in
    ap (zpow (i * n) ⊠ e) f ∙ zpow-at (i * n) e _ ∙ b (a - i * n) (omega arith)

pub add_same : (n i : ℕ) (e s : Series) (q : ℕ) → subword n (add n i e s) i q ≡ subword n s i q ⊕ e q
add_same n i e s q =
    subword-at n (add n i e s) i q ∙ add_at n i e s (i * n + q)
    ∙ ap₂ ◌⊕◌ (sym (subword-at n s i q)) (zpow-at (i * n) e q)

pub add-other : (n i : ℕ) (e s : Series) → below n e → (k q : ℕ) → k ≢ i → q < n
    → subword n (add n i e s) k q ≡ subword n s k q
add-other n i e s b k q d l =
    subword-at n (add n i e s) k q
    ∙ add_at n i e s (k * n + q)
    ∙ ap₂ ◌⊕◌ (sym (subword-at n s k q)) (outside (dec_lt k i))
    ∙ ⊕-zero _
  where
    outside : Dec (k < i) → (zpow (i * n) ⊠ e) (k * n + q) ≡ 𝟎
    outside (yes h) = zpow-low (i * n) e (k * n + q) (omega (arith, suc-mul k n, mul-le-mul_right n h))
    outside (no h) =
        let u : suc i ≤ k = omega arith in
        past n i e b (k * n + q) (omega (arith, suc-mul i n, mul-le-mul_right n u))

pub add-past : (m n i : ℕ) (e s : Series) → below n e → i < m → (a : ℕ) → m * n ≤ a → add n i e s a ≡ s a
add-past m n i e s b h a l =
    add_at n i e s a
    ∙ ap (λ t. s a ⊕ t) (past n i e b a (omega (arith, suc-mul i n, mul-le-mul_right n h))) ∙ ⊕-zero (s a)

-- ---- what is found

pub found_open : (p : Profile) (r : ℕ) (g : Progress) (i : ℕ) → g.line i ≡ none
    → found p r g i ≡ settle_at p r (g.row i)
unfolding found
found_open p r g i e = rw e

pub found-settled : (p : Profile) (r : ℕ) (g : Progress) (i : ℕ) (l : Line) → g.line i ≡ some l → found p r g i ≡ none
unfolding found
found-settled p r g i l e = rw e

pub record Found (p : Profile) (r : ℕ) (g : Progress) (i : ℕ) (w : List F) : Type 0 where
  pub unsettled : g.line i ≡ none
  pub size : length w ≡ p.length
  pub explains : Explains (first-root p) (capability p r) p.length (g.row i) (entry w)

pub found_some : (p : Profile) (r : ℕ) (g : Progress) (i : ℕ) (w : List F) → found p r g i ≡ some w → Found p r g i w
found_some p r g i w e = go (g.line i) refl
  where
    go : (o : Option Line) → g.line i ≡ o → Found p r g i w
    go (some l) h = absurd (none-ne-some w (sym (found-settled p r g i l h) ∙ e))
    go none h =
        let (l, x) =
        settle-some (first-root p) (capability p r) p.length (g.row i) w (sym (found_open p r g i h) ∙ e) in
        record { unsettled = h; size = l; explains = x }

pub below-entry : (n : ℕ) (w : List F) → length w ≡ n → below n (entry w)
below-entry n w l i h = entry_past w i (omega arith)

-- a subword's line and row decide
found_cong : (p : Profile) (r : ℕ) (g h : Progress) (i : ℕ) → g.line i ≡ h.line i → g.row ≡ h.row
    → found p r g i ≡ found p r h i
unfolding found
found_cong p r g h i e f =
    ap₂ (λ (o : Option Line) (s : ℕ → Series). cond (unsettled_line o) (settle_at p r (s i)) none)
    e f

-- ---- one subword

pub step-none : (p : Profile) (r i : ℕ) (g : Progress) → found p r g i ≡ none → step p r i g ≡ g
unfolding step
step-none p r i g e = ap (λ o. correct p r i o g) e

pub step-some : (p : Profile) (r i : ℕ) (g : Progress) (w : List F) → found p r g i ≡ some w
    → step p r i g ≡ correct p r i (some w) g
unfolding step
step-some p r i g w e = ap (λ o. correct p r i o g) e

abbrev pub pattern : Option (List F) → Series
pattern none = O
pattern (some w) = entry w

abbrev pub line_after : ℕ → ℕ → Option Line → Option (List F) → Option Line
line_after r n o none = o
line_after r n o (some w) = some (line_by n r (entry w))

-- ---- the subwords below k

record Partly (p : Profile) (r k : ℕ) (g h : Progress) : Type 0 where
  row_is : h.row ≡ g.row
  line_done : (i : ℕ) → i < k → h.line i ≡ line_after r p.length (g.line i) (found p r g i)
  line_kept : (i : ℕ) → k ≤ i → h.line i ≡ g.line i
  word_done : (i q : ℕ) → i < k → q < p.length
      → subword p.length h.block i q ≡ subword p.length g.block i q ⊕ pattern (found p r g i) q
  word_kept : (i q : ℕ) → k ≤ i → q < p.length
      → subword p.length h.block i q ≡ subword p.length g.block i q

module _ (p : Profile) (r : ℕ) (g : Progress) where
  -- subword k is next, and nothing is found for it; or w is
  keep : (k : ℕ) (h : Progress) → Partly p r k g h → found p r g k ≡ none → Partly p r (suc k) g h
  keep k h z e = record {
    row_is = z.row_is;
    line_done = λ i l. line i l (ℕ_discrete i k);
    line_kept = λ i l. z.line_kept i (omega arith);
    word_done = λ i q l m. symbol i q l m (ℕ_discrete i k);
    word_kept = λ i q l m. z.word_kept i q (omega arith) m;
  }
    where
      line : (i : ℕ) → i < suc k → Dec (i ≡ k) → h.line i ≡ line_after r p.length (g.line i) (found p r g i)
      line i l (yes s) = rw (s, e) (z.line_kept k (omega arith))
      line i l (no s) = z.line_done i (omega arith)

      symbol : (i q : ℕ) → i < suc k → q < p.length → Dec (i ≡ k)
          → subword p.length h.block i q ≡ subword p.length g.block i q ⊕ pattern (found p r g i) q
      symbol i q l m (yes s) =
          rw (s, e) (z.word_kept k q (omega arith) m
          ∙ sym (ap (λ t. subword p.length g.block k q ⊕ t) (O-at q) ∙ ⊕-zero _))
      symbol i q l m (no s) = z.word_done i q (omega arith) m

  take : (k : ℕ) (h : Progress) → Partly p r k g h → (w : List F) → found p r g k ≡ some w
      → Partly p r (suc k) g (correct p r k (some w) h)
  take k h z w e = record {
    row_is = z.row_is;
    line_done = λ i l. line i l (ℕ_discrete i k);
    line_kept = λ i l. put_other k _ h.line i (omega arith) ∙ z.line_kept i (omega arith);
    word_done = λ i q l m. symbol i q l m (ℕ_discrete i k);
    word_kept = λ i q l m.
        add-other p.length k (entry w) h.block small i q (omega arith) m ∙ z.word_kept i q (omega arith) m;
  }
    where
      small : below p.length (entry w)
      small = below-entry p.length w (found_some p r g k w e).size

      line : (i : ℕ) → i < suc k → Dec (i ≡ k)
          → (correct p r k (some w) h).line i ≡ line_after r p.length (g.line i) (found p r g i)
      line i l (yes s) = rw (s, e) (put_same k _ h.line)
      line i l (no s) = put_other k _ h.line i s ∙ z.line_done i (omega arith)

      symbol : (i q : ℕ) → i < suc k → q < p.length → Dec (i ≡ k)
          → subword p.length (correct p r k (some w) h).block i q
          ≡ subword p.length g.block i q ⊕ pattern (found p r g i) q
      symbol i q l m (yes s) =
          rw (s, e)
          (add_same p.length k (entry w) h.block q ∙ ap (λ t. t ⊕ entry w q) (z.word_kept k q (omega arith) m))
      symbol i q l m (no s) = add-other p.length k (entry w) h.block small i q s m
          ∙ z.word_done i q (omega arith) m

  partly : (k : ℕ) → Partly p r k g (each k (step p r) g)
  unfolding each
  partly zero = record {
    row_is = refl;
    line_done = λ i l. absurd (omega arith);
    line_kept = λ i l. refl;
    word_done = λ i q l m. absurd (omega arith);
    word_kept = λ i q l m. refl;
  }
  partly (suc k) = go (each k (step p r) g) (partly k) (found p r g k) refl
    where
      go : (h : Progress) → Partly p r k g h → (o : Option (List F)) → found p r g k ≡ o
          → Partly p r (suc k) g (step p r k h)
      go h z none e =
          rw (step-none p r k h (found_cong p r h g k (z.line_kept k (omega arith)) z.row_is ∙ e)) (keep k h z e)
      go h z (some w) e = rw (step-some p r k h w (found_cong p r h g k (z.line_kept k (omega arith)) z.row_is ∙ e))
          (take k h z w e)

  -- ---- all subwords

  pub stage-row : (stage p r g).row ≡ g.row
  unfolding stage
  stage-row = (partly p.subwords).row_is

  module _ (i : ℕ) (h : i < p.subwords) where
    pub stage-line : (o : Option Line) (w : Option (List F)) → g.line i ≡ o → found p r g i ≡ w
        → (stage p r g).line i ≡ line_after r p.length o w
    unfolding stage
    stage-line o w e f = (partly p.subwords).line_done i h ∙ ap₂ (line_after r p.length) e f

    pub stage-subword : (w : Option (List F)) → found p r g i ≡ w → (q : ℕ) → q < p.length
        → subword p.length (stage p r g).block i q ≡ subword p.length g.block i q ⊕ pattern w q
    unfolding stage
    stage-subword w f q l =
        (partly p.subwords).word_done i q h l ∙ ap (λ o. subword p.length g.block i q ⊕ pattern o q) f

    -- nothing was found
    pub stage_stays : found p r g i ≡ none → (q : ℕ) → q < p.length
        → subword p.length (stage p r g).block i q ≡ subword p.length g.block i q
    stage_stays f q l = stage-subword none f q l ∙ ap (λ t. subword p.length g.block i q ⊕ t) (O-at q) ∙ ⊕-zero _

  -- ---- past the subwords

  pub stage-line-past : (i : ℕ) → p.subwords ≤ i → (stage p r g).line i ≡ g.line i
  unfolding stage
  stage-line-past = (partly p.subwords).line_kept

  each-past : (k : ℕ) → k ≤ p.subwords → (a : ℕ) → block_size p ≤ a → (each k (step p r) g).block a ≡ g.block a
  unfolding each
  each-past zero h a l = refl
  each-past (suc k) h a l = go (each k (step p r) g) (each-past k (omega arith) a l)
    where
      go : (d : Progress) → d.block a ≡ g.block a → (step p r k d).block a ≡ g.block a
      go d z = cases (found p r d k) refl
        where
          cases : (o : Option (List F)) → found p r d k ≡ o → (step p r k d).block a ≡ g.block a
          cases none e = rw (step-none p r k d e) z
          cases (some w) e =
              let b : below p.length (entry w) = below-entry p.length w (found_some p r d k w e).size in
              rw (step-some p r k d w e) (add-past p.subwords p.length k (entry w) d.block b h a l ∙ z)

  pub stage-past : (a : ℕ) → block_size p ≤ a → (stage p r g).block a ≡ g.block a
  unfolding stage
  stage-past = each-past p.subwords (omega arith)
