-- The form that it has gives its γ; in the scaled form S'_k is a factor.
use Rattle.std.proofs.Common.{ap, refl, ◌∙◌}
use Rattle.field.specs.Field.{F, ◌⊙◌, val}
use Rattle.key_equation.specs.Shared.{or_one}
use Rattle.solver.specs.PlainView.{plain}
use Rattle.solver.specs.LookaheadView.{lookahead}
use Rattle.solver.specs.ScaledView.{scaled}
use Rattle.solver.specs.Solver.{for-form}
use Rattle.error_values.proofs.factor.Goals as goal

pub returns-in-Plain : goal.returns-in-Plain
unfolding plain
returns-in-Plain c r = for-form _ _ r c.in-Plain.is refl

pub returns-in-Lookahead : goal.returns-in-Lookahead
unfolding lookahead
returns-in-Lookahead c r = for-form _ _ r c.in-Lookahead.is refl

pub returns-in-Scaled : goal.returns-in-Scaled
unfolding scaled or_one
returns-in-Scaled c r =
    for-form _ _ r c.in-Scaled.is
    (c.product.ensures
    ∙ ap (λ (x : F). val c.in-Scaled.p.gamma ⊙ x)
    (c.one_if_zero.ensures ∙ ap or_one c.coefficient-x.ensures))
