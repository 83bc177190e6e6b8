-- But for the top of zB nothing is cut.
use Rattle.std.proofs.Common.{◌∙◌}
use Rattle.solver.specs.ScaledView.{scaled}
use Rattle.polynomial.specs.Polynomial.{poly-cut}
use Rattle.solver.proofs.scaled.Scaled.products.Goals as goal

pub returns : goal.returns
unfolding scaled
returns c r = record {
  a_is = poly-cut _ _ c.scale.ensures;
  b_is = c.scale_shifted.ensures;
  c_is = poly-cut _ _ (c.scale-2.ensures ∙ rw c.over_z.ensures);
  e_is = poly-cut _ _ c.scale-3.ensures;
}
