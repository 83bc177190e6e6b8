-- From stage to stage.
--
--   At p f y r b q t   decoding of y has gone through stage r; a block, states and a table show where it is
--
-- Proved: a round brings the rows that the definition says (extended); so it is after stage 0 (at_first), after a round
-- and a stage more (at_next), and where no round follows decoding has ended (reached, reached-stopped); where every
-- subword is settled then, each solver is at the end of its line's rounds (reached-settled, reached-solvers), and no
-- line has more than 2,040 bits (reached-bits).
use Prim.Native.Nat.{ℕ, zero, suc, ◌+◌, ◌-◌, ◌*◌, ◌≤◌, ◌<◌}
use Rattle.std.specs.Prelude.{◌≡◌, ◌≢◌, Bool, cond, ◌&&◌, leb, ltb, length, replicate, map, Ok, Err}
use Rattle.std.proofs.Math.Path.{refl, fun_ext, subst}
use Rattle.std.proofs.Common.{sym, ap, ◌∙◌, true≢false, add-one, arith}
use Rattle.std.proofs.Math.Logic.{by_cases}
use Rattle.std.proofs.Math.Bool.{true, false}
use mathlib.Core.List.{List, [], ◌∷◌}
use Rattle.std.proofs.lemmas.List.{length-replicate, get_or-replicate}
use Rattle.std.proofs.Math.Option
use Rattle.std.proofs.Math.Option.{Option, none, some}
use Rattle.std.proofs.Math.Decide.{dec_lt}
use Rattle.std.proofs.Math.Nat.{sub-zero}
use Rattle.std.proofs.Math.ListN.{get_or}
use borrow.Author.Tests.{lt-ltb, le-ltb, lt-leb, le-leb, leb-true}
use Rattle.field.specs.declared.Gf.{Gf}
use Rattle.field.specs.Field.{F, 𝟎}
use Rattle.series.specs.Series.{Series}
use Rattle.series.specs.Shift.{cut_high}
use Rattle.series.specs.Degree.{below}
use Rattle.series.specs.Array.{bytes}
use Rattle.profile.specs.declared.Profile.{Profile}
use Rattle.profile.specs.Definition.{capability}
use Rattle.profile.specs.Valid.{Valid}
use Rattle.block.specs.Table.{table}
use Rattle.code.specs.Check.{received}
use Rattle.solver.specs.declared.Form.{Form}
use Rattle.solver.specs.declared.Solver.{Solver}
use Rattle.solver.specs.Solver.{form_of, Is}
use Rattle.solver.specs.ContinuationDefinition.{Ended, ended-start}
use Rattle.staged_decoding.specs.Definition as staged
use Rattle.staged_decoding.specs.Definition.{Progress, open?, unsettled_line, unsettled, line_at, line_rounds}
use Rattle.staged_decoding.specs.Definition.{rounds_of, extend, start, stage, round, stages, settled, stopped}
use Rattle.staged_decoding.specs.Count.{count_cong, count_none}
use Rattle.staged_decoding.specs.Stage.{progress-equal}
use Rattle.staged_decoding.specs.Round.{extend_open, extend-settled, extend-low, window-high}
use Rattle.staged_decoding.specs.Rounds.{rounds_cong}
use Rattle.staged_decoding.specs.Accepted.{settled-bits}
use Rattle.staged_decoding.specs.Course.{stages-over, stages_stop, stages-on, settled_course}
use Rattle.extend.specs.LagrangeDefinition.{flag}
use Rattle.extend.specs.Definition.{Seen}
use Rattle.stages.specs.declared.report.Line.{Line}
use Rattle.stages.specs.declared.subword.State.{State}
use Rattle.stages.specs.declared.subword.State.TheVariants.{Pending, Settled}
use Rattle.stages.specs.declared.Ending.{Ending}
use Rattle.stages.specs.Report.{says, Has, Counted}
use Rattle.stages.specs.View.{shown, solver_of, pending?, lines_of, view, waiting, so_far, Held, Before, Came, Extended}
use Rattle.stages.specs.View.{Reported, Standing, Reached}
use Rattle.stages.specs.Lines.{has, says_at, says_past, shown_at, shown_past, pending_at}

-- ---- flags

open_is : (p : Profile) (b : List ℕ) (states : List State) (t : List (List Gf)) (i : ℕ) (s : State) → Has states i s
    → open? (view b states t) i ≡ flag (map pending? states) i
unfolding view
open_is p b states t i s m = rw (shown_at states i s m, pending_at states i s m) (go s)
  where
    go : (s : State) → unsettled_line (shown s) ≡ pending? s
    go (Pending x) = refl
    go (Settled l) = refl

module _ (p : Profile) (states : List State) (enough : p.subwords ≤ length states) (b : List ℕ) where
  open-flag : (t : List (List Gf)) (i : ℕ) → i < p.subwords → open? (view b states t) i ≡ flag (map pending? states) i
  open-flag t i h = go states enough
    where
      go : (states : List State) → p.subwords ≤ length states → open? (view b states t) i ≡ flag (map pending? states) i
      go [] room = absurd (omega arith)
      go (s ∷ rest) room = open_is p b (s ∷ rest) t i _ (has (s ∷ rest) i s (omega arith))

  pub waiting-is : (t : List (List Gf)) → unsettled p (view b states t) ≡ waiting p states
  unfolding unsettled
  waiting-is t = count_cong p.subwords _ _ (λ i h. open-flag t i h)

  pub extended : (r : ℕ) (t u : List (List Gf))
      → ((g : Progress) → Seen p (map pending? states) b t g
      → table u ≡ (extend p (2 * capability p r) (2 * capability p (suc r)) g).row)
      → Extended p r b states t u
  unfolding view extend
  extended r t u h = progress-equal refl refl (h (view b states t) seen)
    where
      seen : Seen p (map pending? states) b t (view b states t)
      seen = record { block = refl; flags = λ i l. open-flag t i l; row = refl }

pub follows-none : (w k : ℕ) → w ≡ 0 → false ≡ (leb 1 w && leb w k)
follows-none w k e = sym (rw (lt-leb 1 w (omega arith)))

pub follows-some : (w k : ℕ) → w ≢ 0 → leb w k ≡ (leb 1 w && leb w k)
follows-some w k h = sym (rw (le-leb 1 w (omega (arith, h))))

pub follows_yes : (p : Profile) (states : List State) (r : ℕ) (b : Bool)
    → b ≡ (leb 1 (waiting p states) && leb (waiting p states) (p.nested - r)) → b ≡ true
    → (1 ≤ waiting p states) × (waiting p states ≤ p.nested - r)
follows_yes p states r b is h = go (waiting p states) (p.nested - r) (sym is ∙ h)
  where
    go : (w k : ℕ) → (leb 1 w && leb w k) ≡ true → (1 ≤ w) × (w ≤ k)
    go w k h = both (leb 1 w) refl h
      where
        both : (x : Bool) → leb 1 w ≡ x → (x && leb w k) ≡ true → (1 ≤ w) × (w ≤ k)
        both true e h = (leb-true 1 w e, leb-true w k h)
        both false e h = absurd (true≢false (sym h))

-- ---- a round

-- what a solver went through, the row having gone on
so_far_cong : (p : Profile) (i r : ℕ) (S T : Series) (o : Option staged.Line)
    → (o ≡ none → rounds_of p S r ≡ rounds_of p T r)
    → ((x : staged.Line) → o ≡ some x → S ≡ T) → so_far p i (suc r) S o ≡ so_far p i (suc r) T o
so_far_cong p i r S T none rounds row = ap (λ (l : List (List F)). cond (ltb i p.subwords) l []) (rounds refl)
so_far_cong p i r S T (some x) rounds row = ap (λ (s : Series). line_rounds p s x.verdict) (row x refl)

module _ (p : Profile) (ok : Valid p) (f : Form) (r : ℕ) (small : r < p.nested)
    (states : List State) (g : Progress) where
  abbrev a : ℕ
  a = 2 * capability p r

  abbrev b : ℕ
  b = 2 * capability p (suc r)

  same_line : (round p r g).line ≡ g.line
  unfolding extend
  same_line = refl

  round-kept : Held p f (λ _. suc r) g states → Held p f (λ _. suc r) (round p r g) states
  round-kept h = record {
    long = h.long;
    solvers = λ i s m. subst (λ (rounds : List (List F)). Ended f rounds (solver_of s)) (go i) (h.solvers i s m);
    rest = λ i m. rw same_line (h.rest i m);
  }
    where
      go : (i : ℕ)
          → so_far p i (suc r) (g.row i) (g.line i) ≡ so_far p i (suc r) ((round p r g).row i) ((round p r g).line i)
      go i =
          so_far_cong p i r (g.row i) ((round p r g).row i) (g.line i)
          (λ e.
          rounds_cong p ok (g.row i) ((round p r g).row i) r (omega arith) (λ j k. sym (extend-low p a b g i j k)))
          (λ x e. sym (extend-settled p a b g i x e))
          ∙ ap (λ (line : ℕ → Option staged.Line). so_far p i (suc r) ((round p r g).row i) (line i)) (sym same_line)

  round-rows : ((i : ℕ) → i < p.subwords → below (2 * capability p r) (g.row i))
      → (i : ℕ) → i < p.subwords → below (2 * capability p (suc r)) ((round p r g).row i)
  round-rows h i l j k = go (g.line i) refl
    where
      go : (o : Option staged.Line) → g.line i ≡ o → (round p r g).row i j ≡ 𝟎
      go none e =
          ap (λ (s : Series). s j) (extend_open p a b g i l e)
          ∙ window-high a b _ (g.row i) j k
          ∙ h i l j (omega (arith, ok.ordered r small))
      go (some x) e =
          ap (λ (s : Series). s j) (extend-settled p a b g i x e)
          ∙ h i l j (omega (arith, ok.ordered r small))

-- ---- where decoding is

pub record At (p : Profile) (f : Form) (y : Series) (r : ℕ) (b : List ℕ) (states : List State)
    (t : List (List Gf)) : Type 0 where
  pub from : Progress
  pub is : view b states t ≡ stage p r from
  pub on : stages p p.nested 0 (start p y) ≡ stages p (p.nested - r) r from
  pub kept : Held p f (λ _. suc r) (view b states t) states
  pub rows : (i : ℕ) → i < p.subwords → below (2 * capability p r) (table t i)

came-at : (p : Profile) (f : Form) (y : Series) (r : ℕ) (g : Progress) (c : List ℕ) (q : List State)
    (t : List (List Gf)) → stages p p.nested 0 (start p y) ≡ stages p (p.nested - r) r g
    → ((i : ℕ) → i < p.subwords → below (2 * capability p r) (table t i)) → Came p f r g c q t
    → At p f y r c q t
came-at p f y r g c q t on rows came = record {
  from = g;
  is = came.is;
  on = on;
  kept = subst (λ h. Held p f (λ _. suc r) h q) (sym came.is) came.kept;
  rows = rows;
}

-- ---- the first stage

module _ (p : Profile) (f : Form) (b : List ℕ) (s : Solver) (t : List (List Gf)) (fresh : Is f 0 s (form_of f).start)
    (is : table t ≡ received p (bytes b) (2 * capability p 0)) where
  abbrev first : List State
  first = replicate 8 (Pending s)

  none-settled : (i : ℕ) → lines_of first i ≡ none
  unfolding lines_of
  none-settled i = all 8 i
    where
      all : (n i : ℕ) → get_or (map shown (replicate n (Pending s))) i none ≡ none
      all zero i = refl
      all (suc n) zero = refl
      all (suc n) (suc i) = all n i

  start_is : view b first t ≡ start p (bytes b)
  unfolding view start
  start_is = progress-equal refl (fun_ext none-settled) is

  first_rows : (i : ℕ) → i < p.subwords → below (2 * capability p 0) (table t i)
  first_rows i h j l = ap (λ (g : ℕ → Series). g i j) is
      ∙ rw (lt-ltb i p.subwords h) (cut_high (2 * capability p 0) _ j l)

  pub before-first : Before p f 0 (view b first t) first
  unfolding view
  before-first = record {
    rows = first_rows;
    kept = record {
      long = length-replicate 8 (Pending s);
      solvers = λ i x m. rw (none-settled i) (go i x m (ltb i p.subwords));
      rest = λ i h. none-settled i;
    };
  }
    where
      go : (i : ℕ) (x : State) → Has first i x → (u : Bool) → Ended f (cond u [] []) (solver_of x)
      go i x (m, at) u =
          subst (λ (y : State). Ended f (cond u [] []) (solver_of y))
          (sym (get_or-replicate 8 i (Pending s) x (omega (arith, m, length-replicate 8 (Pending s)))) ∙ at x) (none u)
        where
          none : (u : Bool) → Ended f (cond u [] []) s
          none true = ended-start f s fresh
          none false = ended-start f s fresh

  pub at_first : (c : List ℕ) (q : List State) → Came p f 0 (view b first t) c q t → At p f (bytes b) 0 c q t
  at_first c q came = came-at p f (bytes b) 0 _ c q t (rw (sub-zero, start_is)) first_rows came

-- ---- a round and a stage more

module _ (p : Profile) (ok : Valid p) (f : Form) (y : Series) (r : ℕ) (b : List ℕ) (states : List State)
    (t : List (List Gf)) (now : At p f y r b states t) where
  enough : p.subwords ≤ length states
  enough = omega (arith, ok.subwords.1, now.kept.long)

  module _ (u : List (List Gf)) (further : view b states u ≡ round p r (view b states t))
      (some_left : 1 ≤ waiting p states)
      (few-left : waiting p states ≤ p.nested - r) where
    next-rows : (i : ℕ) → i < p.subwords → below (2 * capability p (suc r)) (table u i)
    unfolding view
    next-rows i h =
        subst (λ (g : Progress). below (2 * capability p (suc r)) (g.row i)) (sym further)
        (round-rows p ok f r (omega arith) states (view b states t) now.rows i h)

    before-next : Before p f (suc r) (view b states u) states
    unfolding view
    before-next = record {
      rows = next-rows;
      kept = subst (λ (g : Progress). Held p f (λ _. suc r) g states) (sym further)
          (round-kept p ok f r (omega arith) states (view b states t) now.kept);
    }

    pub at_next : (c : List ℕ) (q : List State)
        → (Before p f (r + 1) (view b states u) states → Came p f (r + 1) (view b states u) c q u)
        → At p f y (r + 1) c q u
    at_next c q came = rw (add-one r)
        (came-at p f y (suc r) (view b states u) c q u on next-rows (rw (add-one r) at came before-next))
      where
        left : p.nested - r - 1 ≡ p.nested - suc r
        left = omega arith

        count-is : unsettled p (view b states t) ≡ waiting p states
        count-is = waiting-is p states enough b t

        on : stages p p.nested 0 (start p y) ≡ stages p (p.nested - suc r) (suc r) (view b states u)
        on =
            now.on
            ∙ stages-on p r now.from (view b states t) now.is (p.nested - r) (omega (arith, count-is))
            (omega (arith, count-is))
            ∙ rw (left, add-one r, further)

  -- ---- the end

  module _ (lines : List Line) (told : Reported states lines)
      (follows : (leb 1 (waiting p states) && leb (waiting p states) (p.nested - r)) ≡ false) where
    abbrev g : Progress
    g = view b states t

    count_now : unsettled p g ≡ waiting p states
    count_now = waiting-is p states enough b t

    too_many : waiting p states ≢ 0 → p.nested - r < waiting p states
    too_many h =
        by_cases (dec_lt (p.nested - r) (waiting p states)) (λ l. l)
        (λ l. absurd (true≢false (rw (
          le-leb 1 (waiting p states) (omega (arith, h)),
          le-leb (waiting p states) (p.nested - r) (omega arith),
        ) at follows)))

    -- what stands first in a list of eight
    first-of : {A : Type 0} (xs : List A) → length xs ≡ 8 → A
    first-of [] long = absurd (omega arith)
    first-of (x ∷ xs) long = x

    abbrev state : ℕ → State
    state i = get_or states i (first-of states now.kept.long)

    abbrev line : ℕ → Line
    line i = get_or lines i (first-of lines told.long)

    there : (i : ℕ) → i < 8 → Has states i (state i)
    there i h = has states i _ (omega (arith, now.kept.long))

    line_says : (i : ℕ) → Dec (i < 8) → says lines i ≡ line_at g i
    unfolding view
    line_says i (yes h) =
        says_at lines i (line i) (has lines i _ (omega (arith, told.long)))
        ∙ (told.told i h _ _).0
        ∙ ap (λ o. Option.get_or o staged.clean_line) (sym (shown_at states i (state i) (there i h)))
    line_says i (no h) =
        says_past lines i (omega (arith, told.long))
        ∙ ap (λ o. Option.get_or o staged.clean_line) (sym (shown_past states i (omega (arith, now.kept.long))))

    line-solver : (i : ℕ) (l : Line) → Has lines i l → Ended f (so_far p i (suc r) (g.row i) (g.line i)) l.solver
    line-solver i l (h, is) =
        let low : i < 8 = omega (arith, told.long) in
        let at : Ended f (so_far p i (suc r) (g.row i) (g.line i)) (line i).solver =
        rw (told.told i low (first-of states now.kept.long) (first-of lines told.long)).1
        (now.kept.solvers i (state i) (there i low)) in
        subst (λ (l : Line). Ended f (so_far p i (suc r) (g.row i) (g.line i)) l.solver) (is _) at

    standing : Standing p f (λ _. suc r) g lines
    standing = record {
      solvers = line-solver;
      says = λ i. line_says i (dec_lt i 8);
      rest = now.kept.rest;
    }

    pub reached : waiting p states ≡ 0 → Reached p f y (bytes b) (Ok (record { stage = r; lines = lines }))
    unfolding view
    reached z = record {
      last = g;
      is = now.on ∙ stages-over p r now.from g now.is (p.nested - r) (count_now ∙ z);
      block = refl;
      long = told.long;
      kept = standing;
    }

    pub reached-stopped : waiting p states ≢ 0 → Reached p f y (bytes b) (Err (record { stage = r; lines = lines }))
    unfolding view
    reached-stopped h = record {
      last = g;
      is = now.on
          ∙ stages_stop p r now.from g now.is (p.nested - r) (omega (arith, count_now, too_many h));
      block = refl;
      long = told.long;
      kept = standing;
    }

-- ---- every subword is settled

module _ (p : Profile) (f : Form) (y b : Series) (e : Ending) (r : Reached p f y b (Ok e)) where
  pub reached-settled : stages p p.nested 0 (start p y) ≡ settled e.stage r.last
  reached-settled = r.is

  none_left : unsettled p r.last ≡ 0
  none_left =
      let (over, is) = settled_course p y e.stage r.last reached-settled in
      ap (unsettled p) is ∙ over.none_left

  pub reached-solvers : (i : ℕ) (l : Line) → Has e.lines i l
      → Ended f (line_rounds p (r.last.row i) (line_at r.last i).verdict) l.solver
  unfolding unsettled
  reached-solvers i l m = go (r.last.line i) refl (dec_lt i p.subwords)
    where
      go : (o : Option staged.Line) → r.last.line i ≡ o → Dec (i < p.subwords)
          → Ended f (line_rounds p (r.last.row i) (line_at r.last i).verdict) l.solver
      go (some x) q d = rw q (rw q at (r.kept.solvers i l m))
      go none q (yes d) = absurd (true≢false (rw q at (count_none p.subwords (open? r.last) none_left i d)))
      go none q (no d) = rw q (rw (q, le-ltb i p.subwords (omega arith)) at (r.kept.solvers i l m))

  pub reached-bits : Valid p → Counted p.subwords e.lines
  reached-bits ok i d =
      let same = ap (λ (l : staged.Line). l.bits) (r.kept.says i) in
      omega (arith, same, settled-bits p y e.stage r.last reached-settled i d, ok.length.1)
