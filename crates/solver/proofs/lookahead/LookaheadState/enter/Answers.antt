-- The lines of the definition, one by one.
use Rattle.std.proofs.Common.{arith, sym, ◌∙◌}
use Rattle.field.specs.Field.{◌⊕◌, ◌⊙◌}
use Rattle.series.specs.Series.{K, ◌⊞◌, ◌⊠◌}
use Rattle.polynomial.specs.Polynomial.{poly-at}
use Rattle.solver.specs.LookaheadView.{lookahead}
use Rattle.solver.proofs.lookahead.LookaheadState.enter.Goals as goal

pub returns : goal.returns
unfolding lookahead
returns c =
    let given = c.args in
    let m = lookahead given.u given.self in
    let s0 = c.coefficient-s0.ensures in
    let s1 = c.coefficient-s1.ensures in
    let s2 = c.coefficient-s2.ensures in
    let s3 = c.coefficient-s3.ensures in
    let Λ0 = sym (poly-at given.self.locator 0 (omega arith)) in
    let B0 = sym (poly-at given.self.auxiliary 0 (omega arith)) in
    let Δ0 = sym (poly-at given.self.delta 0 (omega arith)) in
    let Θ0 = sym (poly-at given.self.theta 0 (omega arith)) in
    let γS = c.product-g_s.ensures ∙ λ j. m.γ ⊙ s1 j in
    let S1S0 = c.product.ensures ∙ λ j. s1 j ⊙ s0 j in
    let S2S0 = c.product-2.ensures ∙ λ j. s2 j ⊙ s0 j in
    λ i. record {
      Λ = m.Λ;
      B = m.B;
      γ = m.γ;
      k = m.k;
      Δ = (c.add_multiple.ensures ∙ λ j. m.Δ ⊞ K (s0 j) ⊠ m.Λ) i;
      Θ = (c.add_multiple-2.ensures ∙ λ j. m.Θ ⊞ K (s0 j) ⊠ m.B) i;
      γS = γS i;
      δS = (c.two_products.ensures ∙ λ j. s1 j ⊙ Δ0 j ⊕ S1S0 j ⊙ Λ0 j) i;
      θS = (c.two_products-2.ensures ∙ λ j. s2 j ⊙ Θ0 j ⊕ S2S0 j ⊙ B0 j) i;
      g1 = (c.product-3.ensures ∙ λ j. s1 j ⊙ s3 j) i;
      g2 = (c.product-4.ensures ∙ λ j. s2 j ⊙ s3 j) i;
      h1 = (c.product-5.ensures ∙ λ j. m.γ ⊙ s2 j) i;
      h2 = (c.product-6.ensures ∙ λ j. γS j ⊙ s2 j) i;
    }
