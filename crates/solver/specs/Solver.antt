-- A solver in a named form.
--
--   form_of f         the form that f names
--   named s           the name of the form that the solver s has
--   state_of f r s    the state that the solver s has in the form f, after r iterations; the start, if it has another
--   Is f r s m        s is a solver in the form f, in the state m after r iterations
--   k_in f m          k of a state of the form f; Λ_in f m: its Λ
--   clip f m          m with the first 49 coefficients of its polynomials: all that an array holds
--   iterate_clipped f S r m   m after iteration r over S, clipped
--
-- Proved: what holds in the form that a solver has, holds in the form that it is said to have (for-form); a run of at
-- most 48 syndromes loses nothing by clip (clip-run).
use Rattle.std.specs.Prelude.{ℕ, ◌≤◌, ◌≡◌, List, ℤ, length}
use Rattle.std.proofs.Common.{sym, subst}
use Rattle.field.specs.Field.{F}
use Rattle.series.specs.Series.{Series}
use Rattle.series.specs.Shift.{cut}
use Rattle.series.specs.Degree.{below, below-cut_eq}
use Rattle.key_equation.specs.Run as Run
use Rattle.key_equation.specs.Agreement.{fits}
use Rattle.solver.specs.PlainView.{plain, clip_plain}
use Rattle.solver.specs.LookaheadView.{lookahead, lookahead_with, clip_lookahead}
use Rattle.solver.specs.ScaledView.{scaled, scaled_with, clip_scaled}
unfoldable pub use Rattle.solver.specs.SwapIterations.{iterated}
use Rattle.solver.specs.declared.Form.{Form}
use Rattle.solver.specs.declared.Form.TheVariants.{Plain, Lookahead, Scaled}
use Rattle.solver.specs.declared.Solver.{Solver}
use Rattle.solver.specs.declared.Solver.TheVariants.{Plain as in-plain, Lookahead as in-lookahead, Scaled as in-scaled}

abbrev pub form_of : Form → Run.Form
form_of Plain = Run.plain
form_of Lookahead = Run.lookahead
form_of Scaled = Run.scaled

abbrev pub named : Solver → Form
named (in-plain p) = Plain
named (in-lookahead p) = Lookahead
named (in-scaled p) = Scaled

abbrev pub state_of : (f : Form) → ℕ → Solver → (form_of f).State
state_of Plain r (in-plain p) = plain r p
state_of Lookahead r (in-lookahead p) = lookahead r p
state_of Scaled r (in-scaled p) = scaled r p
state_of f r s = (form_of f).start

abbrev pub Is : (f : Form) → ℕ → Solver → (form_of f).State → Type 0
Is f r s m = (named s ≡ f) × (state_of f r s ≡ m)

abbrev pub k_in : (f : Form) → (form_of f).State → ℤ
k_in Plain m = m.k
k_in Lookahead m = m.k
k_in Scaled m = m.k

abbrev pub Λ_in : (f : Form) → (form_of f).State → Series
Λ_in Plain m = m.Λ
Λ_in Lookahead m = m.Λ
Λ_in Scaled m = m.Λ

abbrev pub clip : (f : Form) → (form_of f).State → (form_of f).State
clip Plain = clip_plain
clip Lookahead = clip_lookahead
clip Scaled = clip_scaled

abbrev pub iterate_clipped : (f : Form) → Series → ℕ → (form_of f).State → (form_of f).State
iterate_clipped f S r m = clip f ((form_of f).iterate r S m)

-- what holds in the form that a solver has, holds in the form that it is said to have; s is found to be x
pub for-form : {x : Solver} (P : (f : Form) → (form_of f).State → Type 0) (s : Solver) (r : ℕ)
    → s ≡ x → P (named x) (state_of (named x) r x)
    → (f : Form) (m : (form_of f).State) → Is f r s m → P f m
for-form P s r e p f m h =
    subst (P f) h.1
    (subst (λ (f : Form). P f (state_of f r s)) h.0 (subst (λ s. P (named s) (state_of (named s) r s)) (sym e) p))

-- ---- clipping

all : {f : Series} → below 49 f → cut 49 f ≡ f
all {f} = below-cut_eq 49 f

-- nothing is lost where there are at most 48 syndromes
pub clip-run : (f : Form) (rounds : List (List F)) → length (Run.joined rounds) ≤ 48 → (k : ℕ)
    → clip f (Run.run (form_of f) rounds k).state ≡ (Run.run (form_of f) rounds k).state
unfolding clip_plain clip_lookahead clip_scaled
clip-run Plain rounds h k =
    let b = (fits rounds h k).in_plain in
    let m = (Run.run Run.plain rounds k).state in
    λ i. record { Λ = all b.Λ i; B = all b.B i; γ = m.γ; k = m.k }
clip-run Lookahead rounds h k =
    let b = (fits rounds h k).in_lookahead in
    let m = (Run.run Run.lookahead rounds k).state in
    λ i. lookahead_with m (all b.Λ i) (all b.B i) (all b.Δ i) (all b.Θ i)
clip-run Scaled rounds h k =
    let b = (fits rounds h k).in_scaled in
    let m = (Run.run Run.scaled rounds k).state in
    λ i. scaled_with m (all b.Λ i) (all b.B i) (all b.Δ i) (all b.Θ i)
