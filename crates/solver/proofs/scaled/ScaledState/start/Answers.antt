-- Constants one and zero, and k = 0 - 2·0.
use Rattle.field.specs.Field.{val-one, val-zero}
use Rattle.key_equation.specs.Length.{k_of-start}
use Rattle.solver.specs.ScaledView.{scaled}
use Rattle.solver.proofs.scaled.ScaledState.start.Goals as goal

pub returns : goal.returns
unfolding scaled
returns c = cc (val-one, val-zero, k_of-start)
