-- A run of a solver over the rounds that are lent.
--
--   syndromes_of bytes     the syndromes that a run is lent: at most 48
--   rounds_of bytes ns     its rounds: cut from these to the lengths ns, a round taking what is left
--   at_of f known p        where a run of the code is
--   Claimed f rounds k p   the agreement, FORMAT 8.15, for a run in the form f that is at p
--   Ran f rounds k p       what `run` promises
--
-- Proved: every list of rounds with at most 48 syndromes can be lent (lent); where the code is where the run of the
-- definitions is, the claim holds (ran); the solver of a run is where the run is (ran-stands).
use Rattle.std.specs.Prelude.{ℕ, ◌≤◌, ◌<◌, min, ◌≡◌, refl, false, List, [], ◌∷◌, map, length, get_or, take, replicate}
use Rattle.std.proofs.Common.{sym, ap, ap₂, ◌∙◌, subst, arith, length-take, get_or-take, take_all}
use Rattle.std.proofs.lemmas.List.{length-map}
use Rattle.std.proofs.Math.ListN.{get_or-map}
use Rattle.field.specs.Field.{F, 𝟎, of, byte, of-byte, of_zero}
use Rattle.series.specs.Word.{entry, entry-is, entry_past}
use Rattle.series.specs.Shift.{cut, cut_unique}
use Rattle.series.specs.Array.{bytes, read_at, filled_none}
use Rattle.polynomial.specs.Polynomial.{row, row-values}
use Rattle.key_equation.specs.Run as Run
use Rattle.key_equation.specs.Walk.{run-r}
use Rattle.key_equation.specs.Claim.{PlainAgrees, LookaheadAgrees, ScaledAgrees}
use Rattle.key_equation.specs.Agreement.{agreement}
use Rattle.solver.specs.declared.Form.{Form}
use Rattle.solver.specs.declared.Form.TheVariants.{Plain, Lookahead, Scaled}
use Rattle.solver.specs.Solver.{form_of, named, state_of}
use Rattle.solver.specs.SolverLength.{Stands}
use Rattle.solver.specs.declared.rounds.Progress.{Progress}
use Rattle.solver.specs.Rounds.{cut_rounds, cut-joined}

-- ---- what a run is lent, where it is, and what is claimed of it

abbrev pub syndromes_of : List ℕ → List F
syndromes_of bytes = take 48 (map of bytes)

abbrev pub rounds_of : List ℕ → List ℕ → List (List F)
rounds_of bytes ns = cut_rounds (syndromes_of bytes) ns

-- `known` is the syndromes so far
abbrev pub at_of : (f : Form) → List F → Progress → Run.At (form_of f)
at_of f known p = record {
  known = known;
  r = p.iterations;
  state = state_of f p.iterations p.solver;
  swapped = λ i. get_or p.swapped i false;
}

abbrev pub Claimed : (f : Form) (rounds : List (List F)) (k : ℕ) → Run.At (form_of f) → Type 0
Claimed Plain rounds k p =
    PlainAgrees (Run.iterations rounds k) (Run.measure (entry (Run.joined rounds)) (Run.iterations rounds k))
    (Run.measure_swapped (entry (Run.joined rounds)) (Run.iterations rounds k)) p
Claimed Lookahead rounds k p =
    LookaheadAgrees (Run.iterations rounds k) (Run.so_far rounds k)
    (Run.measure (entry (Run.joined rounds)) (Run.iterations rounds k))
    (Run.measure_swapped (entry (Run.joined rounds)) (Run.iterations rounds k)) p
Claimed Scaled rounds k p =
    ScaledAgrees (Run.iterations rounds k) (Run.so_far rounds k)
    (Run.measure (entry (Run.joined rounds)) (Run.iterations rounds k))
    (Run.factors (entry (Run.joined rounds)) (Run.iterations rounds k))
    (Run.measure_swapped (entry (Run.joined rounds)) (Run.iterations rounds k)) p

-- What `run` promises: the run of the code is that of the definitions, and the agreement of FORMAT 8.15 holds of it.
pub record Ran (f : Form) (rounds : List (List F)) (k : ℕ) (p : Progress) : Type 0 where
  pub form : named p.solver ≡ f
  pub iterations : p.iterations ≡ Run.iterations rounds k
  pub is : at_of f (Run.run (form_of f) rounds k).known p ≡ Run.run (form_of f) rounds k
  pub claim : Claimed f rounds k (at_of f (Run.run (form_of f) rounds k).known p)

-- ---- laws of what is lent

pub length-syndromes : (bytes : List ℕ) → length (syndromes_of bytes) ≡ min 48 (length bytes)
length-syndromes bytes = length-take 48 (map of bytes) ∙ ap (min 48) (length-map bytes of)

pub few : (bytes : List ℕ) → length (syndromes_of bytes) ≤ 48
few bytes = omega (arith, length-syndromes bytes)

-- a table of the first n
pub first-is : (b : List ℕ) (n : ℕ) → n ≤ length (syndromes_of b) → cut n (bytes b) ≡ entry (take n (syndromes_of b))
first-is b n h =
    cut_unique n (bytes b) _ (λ i l. low i l (omega (arith, length-syndromes b)))
    (λ i l. entry_past _ i (simp (length-take) (omega arith)))
  where
    low : (i : ℕ) → i < n → i < 48 → bytes b i ≡ entry (take n (syndromes_of b)) i
    low i l m =
        read_at of 0 b i
        ∙ sym (get_or-map of b i 0)
        ∙ ap (get_or (map of b) i) of_zero
        ∙ sym (entry-is _ i ∙ get_or-take n _ i 𝟎 l ∙ get_or-take 48 (map of b) i 𝟎 m)

pub first-none : (b : List ℕ) → row (replicate 48 (record { 0 = 0 })) ≡ entry (take 0 (syndromes_of b))
first-none b = let none = filled_none 48 (bytes b) in row-values _ none.long ∙ none.is ∙ first-is b 0 (omega arith)

-- its syndromes as bytes, and its lengths
pub lent : (rounds : List (List F)) → length (Run.joined rounds) ≤ 48
    → rounds_of (map byte (Run.joined rounds)) (map length rounds) ≡ rounds
lent rounds h =
    ap (λ s. cut_rounds (take 48 s) (map length rounds)) (back (Run.joined rounds))
    ∙ ap (λ s. cut_rounds s (map length rounds)) (take_all 48 (Run.joined rounds) h)
    ∙ cut-joined rounds
  where
    back : (s : List F) → map of (map byte s) ≡ s
    back [] = refl
    back (x ∷ s) = ap₂ ◌∷◌ (of-byte x) (back s)

-- ---- laws of runs

-- every run of the definitions has it
claimed : (f : Form) (rounds : List (List F)) (k : ℕ) → Claimed f rounds k (Run.run (form_of f) rounds k)
claimed Plain rounds k = (agreement rounds k).in_plain
claimed Lookahead rounds k = (agreement rounds k).in_lookahead
claimed Scaled rounds k = (agreement rounds k).in_scaled

pub ran : (f : Form) (rounds : List (List F)) (k : ℕ) (p : Progress) → named p.solver ≡ f
    → at_of f (Run.run (form_of f) rounds k).known p ≡ Run.run (form_of f) rounds k → Ran f rounds k p
ran f rounds k p e is = record {
  form = e;
  iterations = ap (λ (q : Run.At (form_of f)). q.r) is ∙ run-r (form_of f) rounds k;
  is = is;
  claim = subst (Claimed f rounds k) (sym is) (claimed f rounds k);
}

pub ran-stands : (f : Form) (rounds : List (List F)) (k : ℕ) (p : Progress) → Ran f rounds k p
    → Stands f rounds k p.solver
ran-stands f rounds k p x = (
  x.form,
  ap (λ r. state_of f r p.solver) (sym x.iterations) ∙ ap (λ (q : Run.At (form_of f)). q.state) x.is,
)
