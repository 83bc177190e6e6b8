-- Both ways over a state of a form of the solver: FORMAT 8.19.
--
--   B_in f m              B of a state of the form f
--   factor_in f r S m     the factor of the auxiliary way after r iterations over S: γ, in the scaled form γ'·S'_r
--   most k                the iterations that count: a run has at most 48
--   evaluator_value first k S p f m   the value at position p by the evaluator, after k iterations over S; the
--                         first root is α^first
--   auxiliary_value first k S p f m   the same by the auxiliary polynomial
use Rattle.std.specs.Prelude.{ℕ, min}
use Rattle.field.specs.Field.{F, ◌⊙◌}
use Rattle.series.specs.Series.{Series}
use Rattle.key_equation.specs.Shared.{or_one}
use Rattle.settling.specs.ErrorValue.{by_evaluator, by_auxiliary}
use Rattle.solver.specs.declared.Form.{Form}
use Rattle.solver.specs.declared.Form.TheVariants.{Plain, Lookahead, Scaled}
use Rattle.solver.specs.Solver.{form_of, Λ_in}

abbrev pub B_in : (f : Form) → (form_of f).State → Series
B_in Plain m = m.B
B_in Lookahead m = m.B
B_in Scaled m = m.B

abbrev pub factor_in : (f : Form) → ℕ → Series → (form_of f).State → F
factor_in Plain r S m = m.γ
factor_in Lookahead r S m = m.γ
factor_in Scaled r S m = m.γ' ⊙ or_one (S r)

abbrev pub most : ℕ → ℕ
most k = min k 48

-- an array holds 49 coefficients
abbrev pub evaluator_value : (first k : ℕ) → Series → (p : ℕ) (f : Form) → (form_of f).State → F
evaluator_value first k S p f m = by_evaluator 49 first (most k) (Λ_in f m) S p

abbrev pub auxiliary_value : (first k : ℕ) → Series → (p : ℕ) (f : Form) → (form_of f).State → F
auxiliary_value first k S p f m =
    by_auxiliary 49 first (most k) (factor_in f (most k) S m) (Λ_in f m) (B_in f m) p
