-- A stage, subword after subword.
--
--   next r k i                  the next stage of subword i, those below k having gone through stage r
--   Mid p f r g k b q t         the subwords below k have gone through stage r of the progress g, q being the states
--
-- Proved: so it is at the start (mid_start), after one subword more (mid-next), and at the end (mid-end).
use Prim.Native.Nat.{ℕ, suc, ◌+◌, ◌*◌, ◌<◌}
use Rattle.std.specs.Prelude.{◌≡◌, ◌≢◌, List, [], ltb, length, set}
use Rattle.std.proofs.Math.Path.{refl, sym, ap, subst}
use Rattle.std.proofs.Common.{◌∙◌, arith, length-set}
use Rattle.std.proofs.Math.Logic.{by_cases}
use Rattle.std.proofs.Math.Bool.{cond}
use Rattle.std.proofs.Math.Option.{Option, none, some}
use Rattle.std.proofs.Math.Decide.{dec_lt, ℕ_discrete}
use Rattle.std.proofs.Math.ListN.{get_or}
use borrow.Author.Tests.{lt-ltb, le-ltb}
use Rattle.field.specs.declared.Gf.{Gf}
use Rattle.field.specs.Field.{F}
use Rattle.series.specs.Degree.{below}
use Rattle.series.specs.Array.{bytes}
use Rattle.polynomial.specs.Polynomial.{row}
use Rattle.profile.specs.declared.Profile.{Profile}
use Rattle.profile.specs.Definition.{capability}
use Rattle.block.specs.Table.{table}
use Rattle.solver.specs.declared.Form.{Form}
use Rattle.solver.specs.declared.Solver.{Solver}
use Rattle.solver.specs.ContinuationDefinition.{Ended}
use Rattle.staged_decoding.specs.Definition as staged
use Rattle.staged_decoding.specs.Definition.{Progress, put, each, settle_at, step, stage, line_rounds}
use Rattle.staged_decoding.specs.Stage.{progress-equal, each_none, each_more, put_same, put_other, found_open}
use Rattle.staged_decoding.specs.Stage.{found-settled, step-none, step-some}
use Rattle.stages.specs.AttemptDefinition.{Ready}
use Rattle.stages.specs.declared.report.Line.{Line}
use Rattle.stages.specs.declared.subword.State.{State}
use Rattle.stages.specs.declared.subword.State.TheVariants.{Pending, Settled}
use Rattle.stages.specs.Report.{said, Has}
use Rattle.stages.specs.SubwordDefinition.{Took, Goes}
use Rattle.stages.specs.View.{shown, solver_of, lines_of, view, so_far, Held, Before, Came}
use Rattle.stages.specs.Lines.{any_default, has_same, has_other, shown_at, shown-set, put_stay}

abbrev pub next : (r k i : ℕ) → ℕ
next r k i = cond (ltb i k) (suc r) r

next-other : (r k i : ℕ) → i ≢ k → next r (k + 1) i ≡ next r k i
next-other r k i n =
    by_cases (dec_lt i k) (λ l. rw (lt-ltb i k l, lt-ltb i (k + 1) (omega arith)))
    (λ l. rw (le-ltb i k (omega arith), le-ltb i (k + 1) (omega arith)))

pub record Mid (p : Profile) (f : Form) (r : ℕ) (g : Progress) (k : ℕ) (b : List ℕ) (states : List State)
    (t : List (List Gf)) : Type 0 where
  pub is : view b states t ≡ each k (step p r) g
  pub kept : Held p f (next r k) (view b states t) states
  pub rows : (i : ℕ) → i < p.subwords → below (2 * capability p r) (table t i)

module _ (p : Profile) (f : Form) (r : ℕ) (t : List (List Gf)) where
  -- ---- the start

  pub mid_start : (b : List ℕ) (states : List State) → Before p f r (view b states t) states
      → Mid p f r (view b states t) 0 b states t
  unfolding view
  mid_start b states h = record {
    is = sym (each_none (step p r) (view b states t));
    kept = record {
      long = h.kept.long;
      solvers = λ i s m. rw (le-ltb i 0 (omega arith)) (h.kept.solvers i s m);
      rest = h.kept.rest;
    };
    rows = h.rows;
  }

  -- ---- one subword more

  module _ (k : ℕ) (b c : List ℕ) (states : List State) (low : k < p.subwords) (long : k < length states) where
    kept_next : (q : State) → Held p f (next r k) (view b states t) states
        → Ended f (so_far p k (suc r) (table t k) (shown q)) (solver_of q)
        → Held p f (next r (k + 1)) (view c (set states k q) t) (set states k q)
    unfolding view
    kept_next q h e = record {
      long = length-set states k q ∙ h.long;
      solvers = λ i y m. go i y m (ℕ_discrete i k);
      rest = λ i m. other i (omega arith) ∙ h.rest i m;
    }
      where
        line_is : lines_of (set states k q) k ≡ shown q
        line_is = ap (λ (l : ℕ → Option staged.Line). l k) (shown-set states k q long)
            ∙ put_same k _ (lines_of states)

        other : (i : ℕ) → i ≢ k → lines_of (set states k q) i ≡ lines_of states i
        other i n = ap (λ (l : ℕ → Option staged.Line). l i) (shown-set states k q long)
            ∙ put_other k _ (lines_of states) i n

        same : (y : State) → Has (set states k q) k y
            → Ended f (so_far p k (next r (k + 1) k) (table t k) (lines_of (set states k q) k)) (solver_of y)
        same y m =
            subst (λ (z : State).
            Ended f (so_far p k (next r (k + 1) k) (table t k) (lines_of (set states k q) k)) (solver_of z))
            (sym (has_same states k q y long m))
            (rw (lt-ltb k (k + 1) (omega arith), line_is) e)

        go : (i : ℕ) (y : State) → Has (set states k q) i y → Dec (i ≡ k)
            → Ended f (so_far p i (next r (k + 1) i) (table t i) (lines_of (set states k q) i)) (solver_of y)
        go i y m (yes e) =
            subst (λ i. Ended f (so_far p i (next r (k + 1) i) (table t i) (lines_of (set states k q) i)) (solver_of y))
            (sym e) (same y (subst (λ i. Has (set states k q) i y) e m))
        go i y m (no n) = rw (next-other r k i n, other i n) (h.solvers i y (has_other states k i q y n m))

    module _ (g : Progress) (mid : Mid p f r g k b states t) (d q : State) where
      abbrev G : Progress
      G = view b states t

      abbrev Next : Type 0
      Next = Mid p f r g (k + 1) c (set states k q) t

      line-was : (s : State) → get_or states k d ≡ s → lines_of states k ≡ shown s
      line-was s e = shown_at states k s (long, λ x. any_default states k x d long ∙ e)

      go_on : view c (set states k q) t ≡ step p r k G
          → Ended f (so_far p k (suc r) (table t k) (shown q)) (solver_of q) → Next
      go_on is ended = record {
        is = is ∙ ap (step p r k) mid.is ∙ sym (each_more k (step p r) g);
        kept = kept_next q mid.kept ended;
        rows = mid.rows;
      }

      -- it was settled before
      settled-next : (l : Line) → get_or states k d ≡ Settled l → q ≡ Settled l → c ≡ b → Next
      unfolding view
      settled-next l was same kept =
          go_on
          (progress-equal (ap bytes kept) (shown-set states k q long
          ∙ put_stay k _ (lines_of states) (line-was _ was ∙ sym (ap shown same))) refl
          ∙ sym (step-none p r k G (found-settled p r G k (said l) (line-was _ was))))
          (subst (λ (s : State). Ended f (so_far p k (suc r) (table t k) (shown s)) (solver_of s)) (sym same)
          (rw (line-was _ was) at
          (mid.kept.solvers k (Settled l) (long, λ x. any_default states k x d long ∙ was))))

      -- it was not, and w is what settles it now
      pending_next : (s : Solver) → get_or states k d ≡ Pending s
          → (w : Option (List F)) → settle_at p r (table t k) ≡ w → (x : State) → q ≡ x
          → Took p f r k (table t k) w (bytes b) (bytes c) x → Next
      unfolding view
      pending_next s was none is (Pending x) e (same, ended) =
          go_on
          (progress-equal same (shown-set states k q long
          ∙ put_stay k _ (lines_of states) (line-was _ was ∙ sym (ap shown e))) refl
          ∙ sym (step-none p r k G (found_open p r G k (line-was _ was) ∙ is)))
          (rw (e, lt-ltb k p.subwords low) ended)
      pending_next s was none is (Settled l) e took = absurd took
      pending_next s was (some w) is (Pending x) e took = absurd took
      pending_next s was (some w) is (Settled l) e (changed, says, ended) =
          go_on
          (progress-equal changed
          (shown-set states k q long ∙ ap (λ o. put k o (lines_of states)) (ap shown e ∙ ap some says)) refl
          ∙ sym (step-some p r k G w (found_open p r G k (line-was _ was) ∙ is)))
          (rw e (subst (λ (x : staged.Line). Ended f (line_rounds p (table t k) x.verdict) l.solver) (sym says) ended))

      pub mid-next : (z : List Gf) → k < length t
          → Goes p r k (row (get_or t k z)) (get_or states k d) b c q → Next
      unfolding view
      mid-next z there goes = go (get_or states k d) refl goes
        where
          ready : (s : Solver) → get_or states k d ≡ Pending s → Ready p f r (table t k) s
          ready s was = record {
            ended = rw (line-was _ was, le-ltb k k (omega arith), lt-ltb k p.subwords low) at
                (mid.kept.solvers k (Pending s) (long, λ x. any_default states k x d long ∙ was));
            past = mid.rows k low;
          }

          go : (s : State) → get_or states k d ≡ s → Goes p r k (row (get_or t k z)) s b c q → Next
          go (Settled l) was (same, kept) = settled-next l was same kept
          go (Pending s) was goes =
              pending_next s was _ refl q refl (rw (any_default t k z [] there) at goes f (ready s was))

  -- ---- the end

  pub mid-end : (g : Progress) (k : ℕ) (b : List ℕ) (q : List State)
      → k ≡ p.subwords → Mid p f r g k b q t → Came p f r g b q t
  unfolding stage
  mid-end g k b q e mid = record {
    is = is;
    kept = subst (λ h. Held p f (λ _. suc r) h q) is
        (record { long = mid.kept.long; solvers = λ i s m. go i s m (dec_lt i k); rest = mid.kept.rest });
  }
    where
      is : view b q t ≡ stage p r g
      is = mid.is ∙ ap (λ k. each k (step p r) g) e

      go : (i : ℕ) (s : State) → Has q i s → Dec (i < k)
          → Ended f (so_far p i (suc r) ((view b q t).row i) ((view b q t).line i)) (solver_of s)
      go i s m (yes h) = rw (lt-ltb i k h) at (mid.kept.solvers i s m)
      go i s m (no h) =
          rw (mid.kept.rest i (omega arith), le-ltb i p.subwords (omega arith))
          (rw (mid.kept.rest i (omega arith), le-ltb i p.subwords (omega arith)) at (mid.kept.solvers i s m))
