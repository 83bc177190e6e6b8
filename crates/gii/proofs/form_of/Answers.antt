-- Any other number is plain.
use Rattle.std.proofs.Common.{arith}
use Rattle.gii.specs.Laws.{form-other}
use Rattle.gii.proofs.form_of.Goals as goal

pub returns-in_default : goal.returns-in_default
returns-in_default c = form-other c.args.f (λ e. omega arith) (λ e. omega arith)
