-- A solver's state as text, of the form that it has.
--
--   name_text f            the name of a form
--   at f i                 coefficient i of f, as a number
--   coefficient_text f i   coefficient i of f, after a space
--   top f n                the index of the last of the coefficients 0 to n of f that is not zero, or 0
--   polynomial_text f      a bar, and the coefficients up to the last that is not zero
--   part_text f g s        two polynomials, a bar and the scalars s
--   polynomials_text s     Λ, B and γ
--   lookahead_scalars p    the scalars that a state of the lookahead form holds
--   scaled_scalars p       the scalars that a state of the scaled form holds
--   held_text s            Δ, Θ and the held scalars; nothing in the plain form, which has none
--   place_text r l         k and L: after r iterations k is r − 2L
use Rattle.std.specs.Prelude.{ℕ, zero, suc, ◌*◌, cond, List, [], ◌∷◌, ◌++◌, eqb, get_or}
use Rattle.field.specs.declared.Gf.{Gf}
use Rattle.solver.specs.declared.Form.{Form}
use Rattle.solver.specs.declared.Form.TheVariants.{Plain, Lookahead, Scaled}
use Rattle.solver.specs.declared.Solver.{Solver}
use Rattle.solver.specs.declared.Solver.TheVariants.{Plain as in-plain, Lookahead as in-lookahead, Scaled as in-scaled}
use Rattle.solver.specs.declared.lookahead.Lookahead.{Lookahead as Lookahead-state}
use Rattle.solver.specs.declared.scaled.Scaled.{Scaled as Scaled-state}
use Rattle.listing.specs.Definition.{ascii}
use Rattle.test_support.specs.Text.{number_text, difference_text, each, numbers_text}

abbrev pub name_text : Form → List ℕ
name_text Plain = ascii "plain"
name_text Lookahead = ascii "lookahead"
name_text Scaled = ascii "scaled"

abbrev pub at : List Gf → ℕ → ℕ
at f i = (get_or f i (record { 0 = 0 })).0

abbrev pub coefficient_text : List Gf → ℕ → List ℕ
coefficient_text f i = number_text (at f i)

unfoldable pub top : List Gf → ℕ → ℕ
top f zero = 0
top f (suc n) = cond (eqb (at f (suc n)) 0) (top f n) (suc n)

unfoldable pub polynomial_text : List Gf → List ℕ
polynomial_text f = ascii " |" ++ each (coefficient_text f) (suc (top f 48))

unfoldable pub part_text : List Gf → List Gf → List ℕ → List ℕ
part_text f g s = polynomial_text f ++ polynomial_text g ++ ascii " |" ++ numbers_text s

abbrev pub polynomials_text : Solver → List ℕ
polynomials_text (in-plain p) = part_text p.locator p.auxiliary (p.gamma.0 ∷ [])
polynomials_text (in-lookahead p) = part_text p.locator p.auxiliary (p.gamma.0 ∷ [])
polynomials_text (in-scaled p) = part_text p.locator p.auxiliary (p.gamma.0 ∷ [])

abbrev pub lookahead_scalars : Lookahead-state → List ℕ
lookahead_scalars p =
    p.gamma_s.0 ∷ p.delta_s.0 ∷ p.theta_s.0 ∷ p.g1.0 ∷ p.g2.0 ∷ p.h1.0 ∷ p.h2.0 ∷ []

abbrev pub scaled_scalars : Scaled-state → List ℕ
scaled_scalars p = p.ratio.0 ∷ p.rho.0 ∷ p.xi.0 ∷ p.rho_s.0 ∷ p.xi_s.0 ∷ []

abbrev pub held_text : Solver → List ℕ
held_text (in-plain p) = []
held_text (in-lookahead p) = part_text p.delta p.theta (lookahead_scalars p)
held_text (in-scaled p) = part_text p.delta p.theta (scaled_scalars p)

abbrev pub place_text : ℕ → ℕ → List ℕ
place_text r l = difference_text r (2 * l) ++ number_text l
