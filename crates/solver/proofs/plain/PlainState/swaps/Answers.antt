-- The discrepancy decides.
use Rattle.std.proofs.Common.{ap, ◌∙◌}
use Rattle.key_equation.specs.Shared.{swaps}
use Rattle.key_equation.specs.Length.{k_of}
use Rattle.solver.specs.PlainView.{plain}
use Rattle.solver.proofs.plain.PlainState.swaps.Goals as goal

pub returns : goal.returns
unfolding plain
returns c = c.swaps.ensures ∙ ap (λ d. swaps d (k_of c.args.r c.args.self.length)) c.discrepancy.ensures
