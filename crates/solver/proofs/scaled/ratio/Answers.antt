-- S' of both indices, and a quotient.
use Rattle.std.proofs.Common.{ap, ap₂, ◌∙◌}
use Rattle.field.specs.Field.{◌⊙◌, inv}
use Rattle.key_equation.specs.Shared.{or_one}
use Rattle.solver.proofs.scaled.ratio.Goals as goal

pub returns : goal.returns
unfolding or_one
returns c =
    c.product.ensures
    ∙ ap₂ ◌⊙◌ (c.one_if_zero.ensures ∙ ap or_one c.coefficient-y.ensures)
    (c.inverse.ensures
    ∙ ap inv (c.one_if_zero-2.ensures ∙ ap or_one c.coefficient-x.ensures))
