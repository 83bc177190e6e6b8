-- Line 1.
use Rattle.std.proofs.Common.{arith, sym, ◌∙◌}
use Rattle.series.specs.Series.{K, ◌⊞◌, ◌⊠◌}
use Rattle.polynomial.specs.Polynomial.{poly-at, below-poly, cut-update}
use Rattle.solver.specs.LookaheadView.{lookahead}
use Rattle.solver.proofs.lookahead.Lookahead.next_locator.Goals as goal

pub returns : goal.returns
unfolding lookahead
returns c =
    let given = c.args.self in
    let m = lookahead 0 given in
    let Δ0 = sym (poly-at given.delta 0 (omega arith)) in
    let zB = c.times_z-zb.ensures in
    c.combine.ensures ∙ (λ i. K m.γ ⊠ m.Λ ⊞ K (Δ0 i) ⊠ zB i) ∙ cut-update _ _ _ _ (below-poly _)
