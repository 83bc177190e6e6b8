-- The lines of the definition, one by one.
use Rattle.std.proofs.Common.{ap, arith, sym, ◌∙◌}
use Rattle.field.specs.Field.{◌⊙◌, val}
use Rattle.series.specs.Series.{K, Z, ◌⊞◌, ◌⊠◌}
use Rattle.polynomial.specs.Polynomial.{poly, row, poly-at, below-poly, cut-add}
use Rattle.key_equation.specs.Lookahead.{State}
use Rattle.solver.specs.LookaheadView.{lookahead, clip_lookahead}
use Rattle.solver.specs.SwapStep.{hold-k}
use Rattle.solver.specs.LookaheadStep.{stepped}
use Rattle.solver.proofs.lookahead.Lookahead.hold.Goals as goal

pub returns : goal.returns
unfolding lookahead clip_lookahead
returns c =
    let given = c.args in
    let m = lookahead given.r given.self in
    let s1 = c.coefficient-s1.ensures in
    let s3 = c.coefficient-s3.ensures in
    let zB = c.times_z-zb.ensures in
    let Θ0 = sym (poly-at given.self.theta 0 (omega arith)) in
    let k = hold-k given.r given.self.length in
    let Θ = c.add_multiple.ensures ∙ (λ j. m.Θ ⊞ K (s1 j) ⊠ zB j) ∙ cut-add _ m.Θ (Z ⊠ m.B) (below-poly _) in
    let θS = c.product.ensures ∙ (λ j. s3 j ⊙ Θ0 j) in
    ap (λ (q : State). record q {
      B = poly c.times_z-zb.result;
      Θ = poly c.add_multiple.result;
      θS = val c.product.result;
    }) c.step.ensures
    ∙ λ i. stepped given.r (row given.s) m (zB i) m.γ (k i) (Θ i) (θS i)
