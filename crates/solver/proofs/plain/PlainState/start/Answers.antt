-- Two constants one, and k = 0 - 2·0.
use Rattle.field.specs.Field.{val-one}
use Rattle.key_equation.specs.Length.{k_of-start}
use Rattle.solver.specs.PlainView.{plain}
use Rattle.solver.proofs.plain.PlainState.start.Goals as goal

pub returns : goal.returns
unfolding plain
returns c = cc (val-one, k_of-start)
