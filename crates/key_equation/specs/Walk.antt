-- Runs in any form: one induction over the events of every list of rounds.
--
--   want r S m x       what a form's state is to be after r iterations: S the syndromes so far, m the measure, x
--                      the factors
--   Keeps f want       form f keeps it: at the start, through an entry, through an iteration; and it swaps with the
--                      plain form
--   wanted J known r   where a run in such a form is to be, J being the joined syndromes and `known` those so far
--
-- Proved: how many iterations a run has had (run-r); where every run is, as one equation (run_is); how far it has come
-- (iterations_le), and what its end is (end-iterations, end-entered); the syndromes so far are those of the joined
-- rounds, as far as they are iterated over (so_far_agrees).
use Prim.Native.Nat.{ℕ, zero, suc, ◌+◌, ◌≤◌, ◌<◌}
use Rattle.std.specs.Prelude.{◌≡◌, ◌≢◌, length, replicate}
use Rattle.std.proofs.Math.Path.{refl, sym, ap}
use Rattle.std.proofs.Common.{◌∙◌, arith, add-zero, zero-add, suc-add, add-suc, length-append, take_all}
use mathlib.Core.List.{List, [], ◌∷◌, ◌++◌, append_assoc, append-nil}
use Rattle.std.proofs.Math.ListN.{take, get_or-append}
use Rattle.std.proofs.Math.Seq.{take-length}
use Rattle.field.specs.Field.{F, 𝟎, 𝟏}
use Rattle.series.specs.Series.{Series}
use Rattle.series.specs.Word.{entry, entry-is, entry_past}
use Rattle.key_equation.specs.Plain as Plain
use Rattle.key_equation.specs.Run.{Form, Factors, At, Event, entering, iteration, joined, events, outset, note}
use Rattle.key_equation.specs.Run.{happen, after, run, count, entered, iterations, so_far, measure}
use Rattle.key_equation.specs.Run.{measure_swapped, next_factors, factors}
use Rattle.key_equation.specs.Ahead.{Agree}
use Rattle.key_equation.specs.Measure.{measure-γ, factors_nonzero, δ-agree}

-- in any form
after-r : (f : Form) (es : List Event) (p : At f) → (after f es p).r ≡ p.r + count es
unfolding after count
after-r f [] p = sym (add-zero p.r)
after-r f (entering round ∷ es) p = after-r f es (happen f (entering round) p)
after-r f (iteration ∷ es) p = after-r f es (happen f iteration p) ∙ omega arith

pub run-r : (f : Form) (rounds : List (List F)) (k : ℕ) → (run f rounds k).r ≡ iterations rounds k
unfolding run iterations
run-r f rounds k = after-r f (take k (events rounds)) (outset f) ∙ zero-add _

pub record Keeps (f : Form) (want : ℕ → Series → Plain.State → Factors → f.State) : Type 0 where
  pub starts : (S : Series) → ((i : ℕ) → S i ≡ 𝟎) → f.start ≡ want 0 S Plain.start (record { a = 𝟏; b = 𝟏 })
  pub enters : (u : ℕ) (S S' : Series) (m : Plain.State) (x : Factors) → Agree u S S' → S u ≡ 𝟎
      → f.enter u S' (want u S m x) ≡ want u S' m x
  pub iterates : (r : ℕ) (S : Series) (m : Plain.State) (x : Factors) → x.a ≢ 𝟎 → m.γ ≢ 𝟎
      → f.iterate r S (want r S m x)
      ≡ want (suc r) S (Plain.iterate r S m) (next_factors (Plain.δ r S m) m.γ (Plain.swapping r S m) x)
  pub swaps : (r : ℕ) (S : Series) (m : Plain.State) (x : Factors) → x.a ≢ 𝟎 → m.γ ≢ 𝟎
      → f.swapping r S (want r S m x) ≡ Plain.swapping r S m

entry-append : (v w : List F) → Agree (length v) (entry v) (entry (v ++ w))
entry-append v w i h = entry-is v i ∙ sym (entry-is (v ++ w) i ∙ get_or-append v w 𝟎 i h)

module _ (f : Form) (want : ℕ → Series → Plain.State → Factors → f.State) where
  abbrev pub wanted : List F → List F → ℕ → At f
  wanted J known r = record {
    known = known;
    r = r;
    state = want r (entry known) (measure (entry J) r) (factors (entry J) r);
    swapped = measure_swapped (entry J) r;
  }

  module _ (keeps : Keeps f want) (J : List F) where
    at-start : outset f ≡ wanted J [] 0
    unfolding measure factors measure_swapped
    at-start = λ i. record {
      known = [];
      r = 0;
      state = keeps.starts (entry []) (λ p. entry_past [] p (omega arith)) i;
      swapped = (outset f).swapped;
    }

    through-entry : (known round : List F) (r : ℕ) → length known ≡ r
        → happen f (entering round) (wanted J known r) ≡ wanted J (known ++ round) r
    through-entry known round r e = λ i. record {
      known = known ++ round;
      r = r;
      state = state-is i;
      swapped = measure_swapped (entry J) r;
    }
      where
        state-is : f.enter r (entry (known ++ round)) (wanted J known r).state ≡ (wanted J (known ++ round) r).state
        state-is =
            keeps.enters r _ _ _ _ (λ i l. entry-append known round i (omega arith)) (entry_past known r (omega arith))

    through-iteration : (known : List F) (r : ℕ) → Agree (suc r) (entry known) (entry J)
        → happen f iteration (wanted J known r) ≡ wanted J known (suc r)
    unfolding measure factors measure_swapped Plain.iterate
    through-iteration known r h = λ i. record { known = known; r = suc r; state = state-is i; swapped = swapped-is i }
      where
        state-is : f.iterate r (entry known) (wanted J known r).state ≡ (wanted J known (suc r)).state
        state-is =
            keeps.iterates r _ _ _ (factors_nonzero (entry J) r).0 (measure-γ (entry J) r)
            ∙ rw (δ-agree r (entry known) (entry J) (measure (entry J) r) h) refl

        swapped-is : note (f.swapping r (entry known) (wanted J known r).state) r (measure_swapped (entry J) r)
            ≡ measure_swapped (entry J) (suc r)
        swapped-is =
            ap (λ b. note b r (measure_swapped (entry J) r))
            (keeps.swaps r _ _ _ (factors_nonzero (entry J) r).0 (measure-γ (entry J) r))
            ∙ rw (δ-agree r (entry known) (entry J) (measure (entry J) r) h) refl

    -- n iterations are left of the round, then come the rounds; k events happen
    walk : (k n : ℕ) (rounds : List (List F)) (known : List F) (r : ℕ) → length known ≡ r + n
        → known ++ joined rounds ≡ J
        → let es = take k (replicate n iteration ++ events rounds) in
        after f es (wanted J known r) ≡ wanted J (known ++ entered es) (r + count es)
    unfolding after events joined entered count
    walk zero n rounds known r e j = rw (append-nil, add-zero) refl
    walk (suc k) zero [] known r e j = rw (append-nil, add-zero) refl
    walk (suc k) zero (round ∷ rest) known r e j =
        let es = take k (replicate (length round) iteration ++ events rest) in
        ap (after f es) (through-entry known round r (omega arith))
        ∙ walk k (length round) rest (known ++ round) r (length-append known round ∙ omega arith)
        (append_assoc known round (joined rest) ∙ j)
        ∙ ap (λ l. wanted J l (r + count es)) (append_assoc known round (entered es))
    walk (suc k) (suc n) rounds known r e j =
        let es = take k (replicate n iteration ++ events rounds) in
        ap (after f es)
        (through-iteration known r (λ i l. entry-append known (joined rounds) i (omega arith) ∙ ap (λ t. entry t i) j))
        ∙ walk k n rounds known (suc r) (omega arith) j
        ∙ ap (wanted J (known ++ entered es)) (suc-add r (count es) ∙ sym (add-suc r (count es)))

  module _ (keeps : Keeps f want) (rounds : List (List F)) (k : ℕ) where
    pub run_is : run f rounds k ≡ wanted (joined rounds) (entered (take k (events rounds))) (iterations rounds k)
    unfolding run iterations
    run_is =
        let es = take k (events rounds) in
        ap (after f es) (at-start keeps (joined rounds))
        ∙ walk keeps (joined rounds) k 0 rounds [] 0 refl refl
        ∙ ap (wanted (joined rounds) (entered es)) (zero-add (count es))

    pub run-state : (run f rounds k).state
        ≡ want (iterations rounds k) (so_far rounds k) (measure (entry (joined rounds)) (iterations rounds k))
        (factors (entry (joined rounds)) (iterations rounds k))
    unfolding so_far
    run-state = ap (λ p. p.state) run_is

    pub run-swapped : (run f rounds k).swapped ≡ measure_swapped (entry (joined rounds)) (iterations rounds k)
    run-swapped = ap (λ p. p.swapped) run_is

-- ---- how far a run has come, and its end

all-counted : (rounds : List (List F)) → count (events rounds) ≡ length (joined rounds)
unfolding count events joined
all-counted [] = refl
all-counted (round ∷ rest) =
    skip (length round) ∙ ap (λ t. length round + t) (all-counted rest) ∙ sym (length-append round (joined rest))
  where
    skip : (n : ℕ) → count (replicate n iteration ++ events rest) ≡ n + count (events rest)
    skip zero = sym (zero-add _)
    skip (suc n) = ap suc (skip n) ∙ sym (suc-add _ _)

all-entered : (rounds : List (List F)) → entered (events rounds) ≡ joined rounds
unfolding entered events joined
all-entered [] = refl
all-entered (round ∷ rest) = ap (λ t. round ++ t) (skip (length round) ∙ all-entered rest)
  where
    skip : (n : ℕ) → entered (replicate n iteration ++ events rest) ≡ entered (events rest)
    skip zero = refl
    skip (suc n) = skip n

-- n iterations are left of the round, then come the rounds: what is known holds as far as it is iterated over
known_agrees : (k n : ℕ) (rounds : List (List F)) (known : List F) (i : ℕ)
    → let es = take k (replicate n iteration ++ events rounds) in
    i + n < length known + count es → entry (known ++ entered es) i ≡ entry (known ++ joined rounds) i
unfolding events joined entered count
known_agrees zero n rounds known i h =
    rw append-nil (entry-append known (joined rounds) i (omega arith))
known_agrees (suc k) zero [] known i h = refl
known_agrees (suc k) zero (round ∷ rest) known i h =
    let es = take k (replicate (length round) iteration ++ events rest) in
    ap (λ l. entry l i) (sym (append_assoc known round (entered es)))
    ∙ known_agrees k (length round) rest (known ++ round) i (omega (arith, length-append known round))
    ∙ ap (λ l. entry l i) (append_assoc known round (joined rest))
known_agrees (suc k) (suc n) rounds known i h = known_agrees k n rounds known i (omega arith)

pub so_far_agrees : (rounds : List (List F)) (k : ℕ)
    → Agree (iterations rounds k) (so_far rounds k) (entry (joined rounds))
unfolding iterations so_far
so_far_agrees rounds k i h = known_agrees k 0 rounds [] i (omega arith)

few : (k : ℕ) (es : List Event) → count (take k es) ≤ count es
unfolding count
few zero es = omega arith
few (suc k) [] = omega arith
few (suc k) (entering round ∷ es) = few k es
few (suc k) (iteration ∷ es) = omega (arith, few k es)

pub iterations_le : (rounds : List (List F)) (k : ℕ) → iterations rounds k ≤ length (joined rounds)
unfolding iterations
iterations_le rounds k = omega (arith, few k (events rounds), all-counted rounds)

pub end-iterations : (rounds : List (List F)) (k : ℕ) → length (events rounds) ≤ k
    → iterations rounds k ≡ length (joined rounds)
unfolding iterations
end-iterations rounds k h = ap count (take_all k (events rounds) h) ∙ all-counted rounds

pub end-entered : (rounds : List (List F)) → entered (take (length (events rounds)) (events rounds)) ≡ joined rounds
end-entered rounds = ap entered (take-length (events rounds)) ∙ all-entered rounds
