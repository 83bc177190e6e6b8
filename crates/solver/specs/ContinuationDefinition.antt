-- A solver at the end of a list of rounds.
--
--   Ended f rounds s          s is a solver in the form f, at the end of the run over the rounds
--   Next rounds round u v S   the rounds are syndromes 0 to u − 1 of S, the round after them u to v − 1; S is zero from
--                             v on, and v is at most 48
--   Advanced u v S s p        p is the solver s after the entry of a round at u and iterations u to v − 1, S being the
--                             syndromes; what s is and what the numbers are does not matter
--
-- Proved: a solver at its start is at the end of no rounds (ended-start).
use Rattle.std.specs.Prelude.{ℕ, ◌+◌, ◌-◌, ◌≤◌, ◌≡◌, List, [], ◌∷◌, ◌++◌, length}
use Rattle.field.specs.Field.{F}
use Rattle.series.specs.Series.{Series}
use Rattle.series.specs.Degree.{below}
use Rattle.series.specs.Word.{word}
use Rattle.key_equation.specs.Run.{joined, events, after}
use Rattle.key_equation.specs.Ends.{finish}
use Rattle.solver.specs.declared.Form.{Form}
use Rattle.solver.specs.declared.Solver.{Solver}
use Rattle.solver.specs.Solver.{form_of, Is, iterate_clipped, iterated}

abbrev pub Ended : Form → List (List F) → Solver → Type 0
Ended f rounds s = Is f (length (joined rounds)) s (finish (form_of f) rounds).state

pub record Next (rounds : List (List F)) (round : List F) (u v : ℕ) (S : Series) : Type 0 where
  pub from : joined rounds ≡ word u S
  pub to : joined (rounds ++ (round ∷ [])) ≡ word v S
  pub past : below v S
  pub few : v ≤ 48

abbrev pub Advanced : (u v : ℕ) → Series → (s p : Solver) → Type 0
Advanced u v S s p =
    (f : Form) (m : (form_of f).State) → Is f u s m
    → Is f (u + (v - u)) p (iterated (iterate_clipped f S) u (v - u) ((form_of f).enter u S m))

pub ended-start : (f : Form) (s : Solver) → Is f 0 s (form_of f).start → Ended f [] s
unfolding joined finish events after
ended-start f s h = h
