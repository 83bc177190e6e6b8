-- The scalars are the definition's, of the constant term of delta.
use Rattle.std.proofs.Common.{ap, ap₂, arith, sym, ◌∙◌}
use Rattle.field.specs.Field.{val, ◌⊙◌}
use Rattle.polynomial.specs.Polynomial.{poly, poly-at}
use Rattle.key_equation.specs.Length.{k_of}
use Rattle.key_equation.specs.Scaled as Scaled
use Rattle.solver.specs.ScaledView.{scaled}
use Rattle.solver.proofs.scaled.Scaled.holding.Goals as goal

pub returns : goal.returns
unfolding scaled
returns c =
    let given = c.args.self in
    let d = sym (poly-at given.delta 0 (omega arith)) in
    let g = c.ratio-ratio.ensures in
    let ρ = c.one_if_zero-rho.ensures ∙ ap (Scaled.rho (val given.gamma)) d in
    λ i. record {
      Λ = poly given.locator;
      B = poly given.auxiliary;
      γ' = val given.gamma;
      k = k_of c.args.r given.length;
      Δ = poly given.delta;
      Θ = poly given.theta;
      g = g i;
      ρ = ρ i;
      ξ = d i;
      ρS = (c.product.ensures ∙ ap₂ ◌⊙◌ g ρ) i;
      ξS = (c.product-2.ensures ∙ ap₂ ◌⊙◌ g d) i;
    }
