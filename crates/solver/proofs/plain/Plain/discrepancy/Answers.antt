-- Coefficient r of Λ·S.
use Rattle.std.proofs.Common.{sym, ◌∙◌}
use Rattle.solver.specs.PlainView.{plain}
use Rattle.key_equation.specs.Ahead.{δ_convolution}
use Rattle.solver.proofs.plain.Plain.discrepancy.Goals as goal

pub returns : goal.returns
unfolding plain
returns c = c.convolve.ensures ∙ sym (δ_convolution _ _ _)
