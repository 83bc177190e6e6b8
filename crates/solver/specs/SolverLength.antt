-- The length that a solver gives, wherever in a run it is.
--
--   HasLength s l         l is the length of the solver s: it has k of the state that s is in
--   Stands f rounds k s   s is a solver in the form f, in the state that the run over the rounds has after k events
--
-- Proved: where a run is, the length is the linear complexity of the syndromes iterated over (length-least).
use Rattle.std.specs.Prelude.{ℕ, ◌≡◌, List, pos}
use Rattle.std.proofs.Common.{sym, subst}
use Rattle.field.specs.Field.{F}
use Rattle.key_equation.specs.Shared.{len}
use Rattle.key_equation.specs.Run.{run, iterations}
use Rattle.key_equation.specs.Length.{k_of, k_of-length}
use Rattle.key_equation.specs.Recurrence.{ComplexityAfter, least-length}
use Rattle.solver.specs.declared.Form.{Form}
use Rattle.solver.specs.declared.Form.TheVariants.{Plain, Lookahead, Scaled}
use Rattle.solver.specs.declared.Solver.{Solver}
use Rattle.solver.specs.Solver.{form_of, Is, k_in}

abbrev pub HasLength : Solver → ℕ → Type 0
HasLength s l = (r : ℕ) (f : Form) (m : (form_of f).State) → Is f r s m → k_of r l ≡ k_in f m

abbrev pub Stands : Form → List (List F) → ℕ → Solver → Type 0
Stands f rounds k s = Is f (iterations rounds k) s (run (form_of f) rounds k).state

in-form : (f : Form) (rounds : List (List F)) (k : ℕ)
    → len (iterations rounds k) (k_in f (run (form_of f) rounds k).state) ≡ pos (least-length rounds k).L
in-form Plain rounds k = (least-length rounds k).in_plain
in-form Lookahead rounds k = (least-length rounds k).in_lookahead
in-form Scaled rounds k = (least-length rounds k).in_scaled

-- what `length` promises
pub length-least : (s : Solver) (l : ℕ) → HasLength s l
    → record {
      has_length : HasLength s l;
      least : (f : Form) (rounds : List (List F)) (k : ℕ) → Stands f rounds k s → ComplexityAfter rounds k l;
    }
length-least s l has = record { has_length = has; least = least }
  where
    least : (f : Form) (rounds : List (List F)) (k : ℕ) → Stands f rounds k s → ComplexityAfter rounds k l
    least f rounds k stands =
        let found = least-length rounds k in
        subst (ComplexityAfter rounds k)
        (sym (k_of-length (iterations rounds k) l found.L _ (has _ f _ stands) (in-form f rounds k)))
        found.least
