-- What both ways come to where a solver is in a run.
--
--   Gives first k S p f m y   from the state m of the form f after k iterations over S both ways give y at position p,
--                             the first root being α^first, and neither divisor is zero
--
-- Proved, for a pattern that has the syndromes iterated over and at most half as many changes as they are: at each of
-- its changed positions both ways give its change, at every point of every run of at most 48 syndromes, in each form
-- (run_gives), so with a solver that is kept to the end of a list of rounds, as those of a report are (ended_gives).
use Rattle.std.specs.Prelude.{ℕ, ◌*◌, ◌≤◌, ◌<◌, ◌≡◌, ◌≢◌, List}
use Rattle.std.proofs.Common.{sym, ◌∙◌, subst, arith}
use Rattle.std.proofs.Math.Path.{ap}
use Rattle.std.proofs.Math.ListN.{length}
use Rattle.field.specs.Field.{F, 𝟎, 𝟏, ◌⊙◌, ⊙-ring, one-⊙, one≢zero}
use Rattle.series.specs.Series.{Series, K, ◌⊠◌, one-⊠}
use Rattle.series.specs.Word.{entry, weight}
use Rattle.code.specs.Word.{syndrome}
use Rattle.key_equation.specs.Shared.{or_one}
use Rattle.key_equation.specs.Plain as Plain
use Rattle.key_equation.specs.Run.{At, joined, events, run, iterations, so_far, measure}
use Rattle.key_equation.specs.Measure.{measure-agree}
use Rattle.key_equation.specs.Walk.{iterations_le, end-iterations, end-entered, so_far_agrees}
use Rattle.key_equation.specs.Agreement.{agreement}
use Rattle.key_equation.specs.Ends.{finish, run_end}
use Rattle.settling.specs.ErrorValue as ErrorValue
use Rattle.settling.specs.ErrorValue.{values}
use Rattle.solver.specs.declared.Form.{Form}
use Rattle.solver.specs.declared.Form.TheVariants.{Plain, Lookahead, Scaled}
use Rattle.solver.specs.declared.Solver.{Solver}
use Rattle.solver.specs.Solver.{form_of, state_of, Λ_in}
use Rattle.solver.specs.ContinuationDefinition.{Ended}
use Rattle.error_values.specs.Definition.{B_in, factor_in, most}

abbrev pub Gives : (first k : ℕ) → Series → (p : ℕ) (f : Form) → (form_of f).State → F → Type 0
Gives first k S p f m y =
    ErrorValue.Gives 49 first (most k) (factor_in f (most k) S m) (Λ_in f m) (B_in f m) S p y

module _ (first n : ℕ) (e : Series) (hn : n ≤ 255) (p : ℕ) (hp : p < n) (changed : e p ≢ 𝟎) (f : Form)
    (rounds : List (List F)) (short : length (joined rounds) ≤ 48) where
  module _ (k : ℕ) where
    abbrev r : ℕ
    r = iterations rounds k

    abbrev S : Series
    S = so_far rounds k

    abbrev m : Plain.State
    m = measure (entry (joined rounds)) r

    m-is : m ≡ measure S r
    m-is = sym (measure-agree r S (entry (joined rounds)) (so_far_agrees rounds k))

    abbrev state_in : (f : Form) → (form_of f).State
    state_in f = (run (form_of f) rounds k).state

    -- after q iterations
    abbrev Right : (f : Form) → ℕ → Type 0
    Right f q = ErrorValue.Gives 49 first q (factor_in f q S (state_in f)) (Λ_in f (state_in f)) (B_in f (state_in f)) S
        p (e p)

    module _ (few : 2 * weight n e ≤ r) (agrees : (j : ℕ) → j < r → syndrome first n e j ≡ S j) where
      -- a state whose polynomials are multiples of the measure's
      multiples : (f : Form) (a b : F) → a ≢ 𝟎 → b ≢ 𝟎
          → Λ_in f (state_in f) ≡ K a ⊠ m.Λ → B_in f (state_in f) ≡ K b ⊠ m.B
          → factor_in f r S (state_in f) ≡ b ⊙ m.γ → Right f r
      multiples f a b a≢0 b≢0 Λ-is B-is g-is =
          values first n r 49 S e hn few agrees p hp changed (omega (arith, iterations_le rounds k, short)) a b _ _ _
          a≢0 b≢0
          (Λ-is ∙ ap (λ m. K a ⊠ m.Λ) m-is) (B-is ∙ ap (λ m. K b ⊠ m.B) m-is) (g-is ∙ ap (λ m. b ⊙ m.γ) m-is)

      in-form : (f : Form) → Right f r
      in-form Plain =
          let x = (agreement rounds k).in_plain in
          multiples Plain 𝟏 𝟏 one≢zero one≢zero (x.Λ ∙ sym (one-⊠ _)) (x.B ∙ sym (one-⊠ _)) (x.γ ∙ sym (one-⊙ _))
      in-form Lookahead =
          let x = (agreement rounds k).in_lookahead in
          multiples Lookahead 𝟏 𝟏 one≢zero one≢zero (x.Λ ∙ sym (one-⊠ _)) (x.B ∙ sym (one-⊠ _)) (x.γ ∙ sym (one-⊙ _))
      in-form Scaled =
          let x = (agreement rounds k).in_scaled in
          let s : (b c s : F) → b ⊙ c ⊙ s ≡ b ⊙ s ⊙ c = λ b c s. simp ⊙-ring in
          multiples Scaled _ _ x.aS≢0 x.bS≢0 x.Λ x.B
          (ap (λ t. t ⊙ or_one (S r)) x.γ' ∙ s _ _ _)

      pub run_gives : Gives first r S p f (state_in f) (e p)
      run_gives =
          let at_most : r ≡ most r = omega (arith, iterations_le rounds k, short) in
          subst (Right f) at_most (in-form f)

  -- all syndromes of the rounds
  end_gives : 2 * weight n e ≤ length (joined rounds)
      → ((j : ℕ) → j < length (joined rounds) → syndrome first n e j ≡ entry (joined rounds) j)
      → Gives first (length (joined rounds)) (entry (joined rounds)) p f (finish (form_of f) rounds).state (e p)
  unfolding so_far
  end_gives few agrees =
      let k = length (events rounds) in
      let known : so_far rounds k ≡ entry (joined rounds) = ap entry (end-entered rounds) in
      let long : iterations rounds k ≡ length (joined rounds) = end-iterations rounds k (omega arith) in
      let state = ap (λ (q : At (form_of f)). q.state) (run_end (form_of f) rounds) in
      rw (known, long, state) at (run_gives k (omega arith) (λ j l. agrees j (omega arith) ∙ ap (λ s. s j) (sym known)))

  -- a solver that is kept from round to round stands there: k syndromes, which are S
  pub ended_gives : (k : ℕ) (S : Series) (s : Solver) → Ended f rounds s → length (joined rounds) ≡ k
      → entry (joined rounds) ≡ S → 2 * weight n e ≤ k → ((j : ℕ) → j < k → syndrome first n e j ≡ S j)
      → Gives first k S p f (state_of f k s) (e p)
  ended_gives k S s ended long known few agrees =
      subst (λ (k : ℕ). Gives first k S p f (state_of f k s) (e p)) long
      (subst (λ (S : Series). Gives first r S p f (state_of f r s) (e p)) known
      (subst (λ (m : (form_of f).State). Gives first r (entry (joined rounds)) p f m (e p)) (sym ended.1)
      (end_gives (omega (arith, long)) (λ j l. agrees j (omega (arith, long)) ∙ ap (λ S. S j) (sym known)))))
    where
      r : ℕ
      r = length (joined rounds)
