-- Line 2.
use Rattle.std.proofs.Common.{arith, sym, ◌∙◌}
use Rattle.series.specs.Series.{K, ◌⊞◌, ◌⊠◌}
use Rattle.polynomial.specs.Polynomial.{poly-at, below-poly}
use Rattle.solver.specs.LookaheadView.{lookahead}
use Rattle.solver.specs.LookaheadStep.{cut-Δ}
use Rattle.solver.proofs.lookahead.Lookahead.next_delta.Goals as goal

pub returns : goal.returns
unfolding lookahead
returns c =
    let given = c.args.self in
    let m = lookahead 0 given in
    let Δ0 = sym (poly-at given.delta 0 (omega arith)) in
    let over = c.over_z-over.ensures in
    let zB = c.times_z-zb.ensures in
    let left = c.combine-left.ensures ∙ λ i. K m.γ ⊠ over i ⊞ K m.γS ⊠ m.Λ in
    let right = c.combine-right.ensures ∙ λ i. K (Δ0 i) ⊠ m.Θ ⊞ K m.δS ⊠ zB i in
    c.sum.ensures ∙ (λ i. left i ⊞ right i) ∙ cut-Δ m (below-poly _) (below-poly _) (below-poly _)
