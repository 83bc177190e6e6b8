-- Runs, event by event (FORMAT 8.1); the measure (8.13); the factors a and b of the scaled form (8.14).
--
--   Form               a form: its states, the start, entering a round, an iteration, and whether the
--                      iteration is a swap
--   joined rounds      the syndromes of all rounds, one after the other
--   events rounds      what happens in a run: for each round in turn, the entry and then an iteration for each syndrome
--   run f rounds k     where the run in form f is after its first k events
--   iterations, so_far how many of the first k events are iterations; the syndromes of the rounds entered by then. No
--                      form has a say in them
--   measure S r        the plain form after r iterations over the joined syndromes S; no form's answer enters it
--   factors S r        a and b, from the measure alone
use Rattle.std.specs.Prelude.{ℕ, zero, suc, Bool, false, cond, List, [], ◌∷◌, ◌++◌, length, take, replicate}
use Rattle.std.proofs.Math.Logic.{ite}
use Rattle.std.proofs.Math.Decide.{ℕ_discrete}
use Rattle.field.specs.Field.{F, 𝟏, ◌⊙◌, inv, is_zero}
use Rattle.series.specs.Series.{Series}
use Rattle.series.specs.Word.{entry}
use Rattle.key_equation.specs.Plain as Plain
use Rattle.key_equation.specs.Lookahead as Lookahead
use Rattle.key_equation.specs.Scaled as Scaled

pub record Form : Type 1 where
  pub State : Type 0
  pub start : State
  pub enter : ℕ → Series → State → State
  pub iterate : ℕ → Series → State → State
  pub swapping : ℕ → Series → State → Bool

abbrev pub plain : Form
plain = record {
  State = Plain.State;
  start = Plain.start;
  enter = Plain.enter;
  iterate = Plain.iterate;
  swapping = Plain.swapping;
}

abbrev pub lookahead : Form
lookahead = record {
  State = Lookahead.State;
  start = Lookahead.start;
  enter = Lookahead.enter;
  iterate = Lookahead.iterate;
  swapping = Lookahead.swapping;
}

abbrev pub scaled : Form
scaled = record {
  State = Scaled.State;
  start = Scaled.start;
  enter = Scaled.enter;
  iterate = Scaled.iterate;
  swapping = Scaled.swapping;
}

-- ---- a run

unfoldable pub joined : List (List F) → List F
joined [] = []
joined (round ∷ rest) = round ++ joined rest

pub data Event : Type 0 where
  entering : List F → Event
  iteration : Event

unfoldable pub events : List (List F) → List Event
events [] = []
events (round ∷ rest) = entering round ∷ (replicate (length round) iteration ++ events rest)

-- the syndromes so far, the iterations so far, the state handed back last, and which iterations were swaps
pub record At (f : Form) : Type 0 where
  pub known : List F
  pub r : ℕ
  pub state : f.State
  pub swapped : ℕ → Bool

abbrev pub outset : (f : Form) → At f
outset f = record { known = []; r = 0; state = f.start; swapped = λ i. false }

-- iteration r was a swap if b
unfoldable pub note : Bool → ℕ → (ℕ → Bool) → ℕ → Bool
note b r swapped i = ite (ℕ_discrete i r) b (swapped i)

-- FORMAT 8.2: a round's syndromes join those so far; a syndrome past the round is read as 0
abbrev pub happen : (f : Form) → Event → At f → At f
happen f (entering round) p = record {
  known = p.known ++ round;
  r = p.r;
  state = f.enter p.r (entry (p.known ++ round)) p.state;
  swapped = p.swapped;
}
happen f iteration p = record {
  known = p.known;
  r = suc p.r;
  state = f.iterate p.r (entry p.known) p.state;
  swapped = note (f.swapping p.r (entry p.known) p.state) p.r p.swapped;
}

unfoldable pub after : (f : Form) → List Event → At f → At f
after f [] p = p
after f (e ∷ es) p = after f es (happen f e p)

unfoldable pub run : (f : Form) → List (List F) → ℕ → At f
run f rounds k = after f (take k (events rounds)) (outset f)

unfoldable pub count : List Event → ℕ
count [] = 0
count (entering round ∷ es) = count es
count (iteration ∷ es) = suc (count es)

unfoldable pub entered : List Event → List F
entered [] = []
entered (entering round ∷ es) = round ++ entered es
entered (iteration ∷ es) = entered es

unfoldable pub iterations : List (List F) → ℕ → ℕ
iterations rounds k = count (take k (events rounds))

unfoldable pub so_far : List (List F) → ℕ → Series
so_far rounds k = entry (entered (take k (events rounds)))

-- ---- the measure: FORMAT 8.13

unfoldable pub measure : Series → ℕ → Plain.State
measure S zero = Plain.start
measure S (suc r) = Plain.iterate r S (measure S r)

-- which of its iterations were swaps
unfoldable pub measure_swapped : Series → ℕ → ℕ → Bool
measure_swapped S zero = λ i. false
measure_swapped S (suc r) = note (Plain.swapping r S (measure S r)) r (measure_swapped S r)

-- ---- the factors: FORMAT 8.14

pub record Factors : Type 0 where
  pub a : F
  pub b : F

-- with δ = 0 a becomes a / γ, and b stays; else a becomes a × b, and b becomes a × b × γ (swap) or a × b × δ (hold)
abbrev pub next_factors : (δ : F) (γ : F) (swap : Bool) → Factors → Factors
next_factors δ γ swap x = record {
  a = cond (is_zero δ) (x.a ⊙ inv γ) (x.a ⊙ x.b);
  b = cond (is_zero δ) x.b (x.a ⊙ x.b ⊙ cond swap γ δ);
}

unfoldable pub factors : Series → ℕ → Factors
factors S zero = record { a = 𝟏; b = 𝟏 }
factors S (suc r) =
    next_factors (Plain.δ r S (measure S r)) (measure S r).γ (Plain.swapping r S (measure S r)) (factors S r)
