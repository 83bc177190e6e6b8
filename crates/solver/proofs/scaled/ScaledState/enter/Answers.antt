-- Line by line, with the old Λ and B in the sums.
use Rattle.std.proofs.Common.{ap, ◌∙◌}
use Rattle.series.specs.Series.{◌⊞◌, ◌⊠◌, K}
use Rattle.polynomial.specs.Polynomial.{row}
use Rattle.key_equation.specs.Shared.{or_one}
use Rattle.key_equation.specs.Scaled as Scaled
use Rattle.solver.specs.ScaledView.{scaled}
use Rattle.solver.proofs.scaled.ScaledState.enter.Goals as goal

pub returns : goal.returns
unfolding scaled or_one
returns c =
    let given = c.args in
    let m = scaled given.u given.self in
    let s = c.coefficient-x.ensures in
    let s' = c.one_if_zero-y.ensures ∙ ap or_one s in
    c.holding.ensures
    ∙ (λ i. Scaled.holding given.u (row given.s)
    ((c.scale.ensures ∙ ap (λ a. K a ⊠ m.Λ) s') i)
    ((c.scale-2.ensures ∙ ap (λ a. K a ⊠ m.B) s') i)
    m.γ'
    m.k
    ((c.sum.ensures ∙ ap (λ f. m.Δ ⊞ f) (c.scale-3.ensures ∙ ap (λ a. K a ⊠ m.Λ) s)) i)
    ((c.sum-2.ensures ∙ ap (λ f. m.Θ ⊞ f) (c.scale-4.ensures ∙ ap (λ a. K a ⊠ m.B) s)) i))
