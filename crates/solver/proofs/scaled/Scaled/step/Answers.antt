-- Line by line.
use Rattle.std.proofs.Common.{ap, ap₂, ◌∙◌}
use Rattle.field.specs.Field.{val}
use Rattle.series.specs.Series.{◌⊞◌}
use Rattle.polynomial.specs.Polynomial.{poly, row}
use Rattle.key_equation.specs.Length.{k_of}
use Rattle.key_equation.specs.Scaled as Scaled
use Rattle.solver.proofs.scaled.Scaled.step.Goals as goal

pub returns : goal.returns
returns c =
    let given = c.args in
    let next = c.sum-locator.ensures in
    let s = c.coefficient-x.ensures in
    c.holding.ensures
    ∙ (λ i. Scaled.holding given.r (row given.s)
    (next i)
    (poly given.self.auxiliary)
    (val given.self.gamma)
    (k_of given.r given.self.length)
    ((c.sum_unless.ensures
    ∙ ap₂ ◌⊞◌ c.sum-sums.ensures (ap₂ Scaled.unless s next)) i)
    ((c.sum_unless-2.ensures ∙ ap (λ c. poly given.self.theta ⊞ Scaled.unless c (poly given.self.auxiliary)) s) i))
