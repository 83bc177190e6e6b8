-- The walk of `run`, event by event.
--
--   Arrived form s ns n w   after n events the run over the syndromes s, cut to the lengths ns, is where w says
--   Going rounds w       w is not over: there is an event more, in so many rounds
--
-- Proved: the start; that it goes on by an iteration and by an entry; before its end and at its end the run is what
-- `run` promises.
use Prim.Native.Nat.{ℕ, zero, suc, ◌+◌, ◌≤◌, ◌<◌, min}
use Rattle.std.specs.Prelude.{◌≡◌, refl, Bool, true, false, ◌&&◌, List, ◌++◌, leb, length, get_or, take, drop, set}
use Rattle.std.specs.Prelude.{replicate}
use Rattle.std.proofs.Common.{sym, ap, ◌∙◌, true≢false, add-one, arith, leb-true, leb-false, le-leb, get_or-set_same}
use Rattle.std.proofs.Common.{get_or-set_other}
use Rattle.std.proofs.Math.Path.{subst}
use Rattle.std.proofs.Math.Logic.{if_pos, if_neg}
use Rattle.std.proofs.Math.Decide.{ℕ_discrete}
use Rattle.std.proofs.Math.ListN.{length-set}
use Rattle.std.proofs.lemmas.List.{length-replicate}
use Rattle.field.specs.declared.Gf.{Gf}
use Rattle.field.specs.Field.{F}
use Rattle.series.specs.Word.{entry}
use Rattle.polynomial.specs.Polynomial.{row}
use Rattle.key_equation.specs.Run.{At, outset, note, happen, iteration, entering, run}
use Rattle.solver.specs.declared.Form.{Form}
use Rattle.solver.specs.declared.Solver.{Solver}
use Rattle.solver.specs.Solver.{form_of, named, state_of, Is, clip, clip-run}
use Rattle.solver.specs.declared.rounds.Progress.{Progress}
use Rattle.solver.specs.declared.rounds.Walk.{Walk}
use Rattle.solver.specs.Rounds.{cut_rounds, length_cut, Here, here-start, here-run}
use Rattle.solver.specs.Rounds.{here-iterate, here-enter, here_end}
use Rattle.solver.specs.RoundsRun.{at_of, Ran, ran}

pub record Going (rounds : ℕ) (w : Walk) : Type 0 where
  pub left : w.progress.iterations ≤ w.known
  pub few : w.known ≤ 48
  pub more : w.known ≤ w.progress.iterations → w.entered < rounds

-- what `over` tells
pub over_yes : (k r rounds i : ℕ) → (leb k r && leb rounds i) ≡ true → (k ≤ r) × (rounds ≤ i)
over_yes k r rounds i e =
    (leb-true k r (and_left (leb k r) (leb rounds i) e), leb-true rounds i (and_right (leb k r) (leb rounds i) e))
  where
    and_left : (a b : Bool) → (a && b) ≡ true → a ≡ true
    and_left true b e = refl
    and_left false b e = e

    and_right : (a b : Bool) → (a && b) ≡ true → b ≡ true
    and_right true b e = e
    and_right false b e = absurd (true≢false (sym e))

pub over_no : (k r rounds i : ℕ) → (leb k r && leb rounds i) ≡ false → k ≤ r → i < rounds
over_no k r rounds i e l = leb-false rounds i (sym (ap (λ (a : Bool). a && leb rounds i) (le-leb k r l)) ∙ e)

module _ (form : Form) (s : List F) (ns : List ℕ) where
  abbrev here : Walk → At (form_of form)
  here w = at_of form (take w.known s) w.progress

  pub record Arrived (n : ℕ) (w : Walk) : Type 0 where
    pub in-form : named w.progress.solver ≡ form
    pub at : Here (form_of form) s ns n (here w) w.known w.entered
    pub syndromes : row w.syndromes ≡ entry (take w.known s)
    pub long : length w.progress.swapped ≡ 48

  pub event-start : (table : List Gf) (solver : Solver) → row table ≡ entry (take 0 s)
      → Is form 0 solver (form_of form).start
      → Arrived 0 (record {
        progress = record { solver = solver; iterations = 0; swapped = replicate 48 false };
        syndromes = table;
        known = 0;
        entered = 0;
      })
  event-start table solver t start = record {
    in-form = start.0;
    at = subst (λ (q : At (form_of form)). Here (form_of form) s ns 0 q 0 0) same (here-start (form_of form) s ns);
    syndromes = t;
    long = length-replicate 48 false;
  }
    where
      nowhere : (n i : ℕ) → get_or (replicate n false) i false ≡ false
      nowhere zero i = refl
      nowhere (suc n) zero = refl
      nowhere (suc n) (suc i) = nowhere n i

      same : outset (form_of form)
          ≡ at_of form (take 0 s) (record { solver = solver; iterations = 0; swapped = replicate 48 false })
      same i = record { known = take 0 s; r = 0; state = sym start.1 i; swapped = λ j. sym (nowhere 48 j) i }

  module _ (few : length s ≤ 48) (n : ℕ) (w : Walk) (t : Arrived n w) where
    abbrev p : Progress
    p = w.progress

    abbrev m : (form_of form).State
    m = state_of form p.iterations p.solver

    pub event-iterate : p.iterations < w.known → (b : Bool) (next : Solver)
        → ((f : Form) (m : (form_of f).State) → Is f p.iterations p.solver m
        → b ≡ (form_of f).swapping p.iterations (row w.syndromes) m)
        → ((f : Form) (m : (form_of f).State) → Is f p.iterations p.solver m
        → Is f (p.iterations + 1) next (clip f ((form_of f).iterate p.iterations (row w.syndromes) m)))
        → Arrived (n + 1) (record {
          progress = record {
            solver = next;
            iterations = p.iterations + 1;
            swapped = set p.swapped p.iterations b;
          };
          syndromes = w.syndromes;
          known = w.known;
          entered = w.entered;
        })
    unfolding note
    event-iterate l b next swaps iterates = record {
      in-form = goes.0;
      at = subst (λ (q : At (form_of form)). Here (form_of form) s ns (n + 1) q w.known w.entered) same now;
      syndromes = t.syndromes;
      long = length-set p.swapped r b ∙ t.long;
    }
      where
        r : ℕ
        r = p.iterations

        known : List F
        known = take w.known s

        goes : Is form (r + 1) next (clip form ((form_of form).iterate r (row w.syndromes) m))
        goes = iterates form m (t.in-form, refl)

        now : Here (form_of form) s ns (n + 1) (happen (form_of form) iteration (here w)) w.known w.entered
        now = here-iterate (form_of form) s ns n (here w) w.known w.entered t.at l

        -- a run of at most 48 syndromes loses nothing
        whole : clip form ((form_of form).iterate r (entry known) m) ≡ (form_of form).iterate r (entry known) m
        whole =
            subst (λ (q : At (form_of form)). clip form q.state ≡ q.state)
            (here-run (form_of form) s ns (n + 1) _ w.known w.entered now)
            (clip-run form (cut_rounds s ns) (omega (arith, length_cut s ns)) (n + 1))

        state-is : (form_of form).iterate r (entry known) m ≡ state_of form (r + 1) next
        state-is = sym (goes.1 ∙ ap (λ S. clip form ((form_of form).iterate r S m)) t.syndromes ∙ whole)

        noted : (j : ℕ) → note ((form_of form).swapping r (entry known) m) r (λ i. get_or p.swapped i false) j
            ≡ get_or (set p.swapped r b) j false
        noted j = go (ℕ_discrete j r)
          where
            b_is : (form_of form).swapping r (entry known) m ≡ b
            b_is = sym (swaps form m (t.in-form, refl) ∙ ap (λ S. (form_of form).swapping r S m) t.syndromes)

            go : Dec (j ≡ r) → note ((form_of form).swapping r (entry known) m) r (λ i. get_or p.swapped i false) j
                ≡ get_or (set p.swapped r b) j false
            go (yes e) =
                if_pos (ℕ_discrete j r) e _ _
                ∙ b_is
                ∙ sym (ap (λ i. get_or (set p.swapped r b) i false) e
                ∙ get_or-set_same p.swapped r b false (omega (arith, t.long, t.at.fits)))
            go (no e) = if_neg (ℕ_discrete j r) e _ _ ∙ sym (get_or-set_other p.swapped r j b false e)

        same : happen (form_of form) iteration (here w)
            ≡ at_of form known (record { solver = next; iterations = r + 1; swapped = set p.swapped r b })
        same i = record { known = known; r = sym (add-one r) i; state = state-is i; swapped = λ j. noted j i }

    pub event-enter : w.known ≤ p.iterations → w.entered < length ns → (more : ℕ) (table : List Gf) (next : Solver)
        → more ≡ min (w.known + get_or ns w.entered 0) (length s) → row table ≡ entry (take more s)
        → ((f : Form) (m : (form_of f).State) → Is f p.iterations p.solver m
        → Is f p.iterations next ((form_of f).enter p.iterations (row table) m))
        → Arrived (n + 1) (record {
          progress = record { solver = next; iterations = p.iterations; swapped = p.swapped };
          syndromes = table;
          known = more;
          entered = w.entered + 1;
        })
    event-enter l h more table next more-is table_is enters = record {
      in-form = goes.0;
      at = subst (λ (q : At (form_of form)). Here (form_of form) s ns (n + 1) q more (w.entered + 1)) same now;
      syndromes = table_is;
      long = t.long;
    }
      where
        r : ℕ
        r = p.iterations

        round : List F
        round = take (get_or ns w.entered 0) (drop w.known s)

        known : List F
        known = take w.known s ++ round

        goes : Is form r next ((form_of form).enter r (row table) m)
        goes = enters form m (t.in-form, refl)

        now : Here (form_of form) s ns (n + 1) (happen (form_of form) (entering round) (here w)) more (w.entered + 1)
        now = rw more-is
            (here-enter (form_of form) s ns n (here w) w.known w.entered t.at (omega (arith, t.at.left)) h)

        state-is : (form_of form).enter r (entry known) m ≡ state_of form r next
        state-is = sym (goes.1 ∙ ap (λ S. (form_of form).enter r S m) (table_is ∙ ap entry (sym now.known_is)))

        same : happen (form_of form) (entering round) (here w)
            ≡ at_of form (take more s) (record { solver = next; iterations = r; swapped = p.swapped })
        same i = record { known = now.known_is i; r = r; state = state-is i; swapped = λ j. get_or p.swapped j false }

    -- ---- the end

    pub event_going : (w.known ≤ p.iterations → w.entered < length ns) → Going (length ns) w
    event_going more = record { left = t.at.left; few = omega (arith, t.at.fits); more = more }

    reached : (k : ℕ) → run (form_of form) (cut_rounds s ns) k ≡ here w → Ran form (cut_rounds s ns) k p
    reached k e =
        ran form (cut_rounds s ns) k p t.in-form (ap (λ (q : At (form_of form)). at_of form q.known p) e ∙ sym e)

    pub event_ran : (k : ℕ) → n ≡ k → Ran form (cut_rounds s ns) k p
    event_ran k e = reached k (rw (sym e) (here-run (form_of form) s ns n _ w.known w.entered t.at))

    pub event-over : (k : ℕ) → w.known ≤ p.iterations → length ns ≤ w.entered → n ≤ k
        → Ran form (cut_rounds s ns) k p
    event-over k l h q =
        reached k (here_end (form_of form) s ns n _ w.known w.entered t.at (omega (arith, t.at.left)) h k q)
