-- The lines of the definition, one by one; a swap has room for the new length.
use Rattle.std.proofs.Common.{ap, arith, sym, ◌+◌, ◌∙◌}
use Rattle.field.specs.Field.{◌⊕◌, ◌⊙◌, val}
use Rattle.series.specs.Series.{K, ◌⊞◌, ◌⊠◌}
use Rattle.series.specs.Degree.{below-cut_eq}
use Rattle.polynomial.specs.Polynomial.{poly, row, poly-at, below-poly}
use Rattle.key_equation.specs.Length.{k_of}
use Rattle.key_equation.specs.Lookahead.{State}
use Rattle.solver.specs.LookaheadView.{lookahead, clip_lookahead}
use Rattle.solver.specs.SwapStep.{swap-room}
use Rattle.solver.specs.LookaheadStep.{stepped, cut-swap-Θ}
use Rattle.solver.proofs.lookahead.Lookahead.swap.Goals as goal

pub next_length-requires : goal.next_length-requires
unfolding lookahead
next_length-requires c = swap-room _ c.args.r c.args.self.length c.requires

pub returns : goal.returns
unfolding lookahead clip_lookahead
returns c =
    let given = c.args in
    let m = lookahead given.r given.self in
    let s1 = c.coefficient-s1.ensures in
    let s3 = c.coefficient-s3.ensures in
    let over = c.over_z-over.ensures in
    let Λ0 = sym (poly-at given.self.locator 0 (omega arith)) in
    let Δ0 = sym (poly-at given.self.delta 0 (omega arith)) in
    let Δ1 = sym (poly-at given.self.delta 1 (omega arith)) in
    let B = sym (below-cut_eq 49 m.Λ (below-poly _)) in
    let k = c.next_length.ensures in
    let Θ = c.add_multiple.ensures ∙ (λ j. over j ⊞ K (s1 j) ⊠ m.Λ)
    ∙ cut-swap-Θ m (below-poly _) (below-poly _) _ in
    let θS = c.two_products.ensures ∙ (λ j. s3 j ⊙ Δ1 j ⊕ m.g1 ⊙ Λ0 j) in
    ap (λ (q : State). record q {
      B = m.Λ;
      k = k_of (given.r + 1) c.next_length.result;
      Θ = poly c.add_multiple.result;
      θS = val c.two_products.result;
    }) c.step.ensures
    ∙ λ i. stepped given.r (row given.s) m (B i) (Δ0 i) (k i) (Θ i) (θS i)
