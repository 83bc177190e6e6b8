-- δ is the constant term of Δ.
use Rattle.std.proofs.Common.{ap, arith, sym, ◌∙◌}
use Rattle.key_equation.specs.Shared.{swaps}
use Rattle.key_equation.specs.Length.{k_of}
use Rattle.polynomial.specs.Polynomial.{poly-at}
use Rattle.solver.specs.LookaheadView.{lookahead}
use Rattle.solver.proofs.lookahead.LookaheadState.swaps.Goals as goal

pub returns : goal.returns
unfolding lookahead
returns c = c.swaps.ensures ∙ ap (λ d. swaps d (k_of c.args.r c.args.self.length)) (sym (poly-at _ 0 (omega arith)))
