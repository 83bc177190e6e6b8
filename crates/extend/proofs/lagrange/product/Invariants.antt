-- The product, factor by factor.
use Rattle.std.proofs.Common.{◌≡◌}
use Rattle.field.specs.Field.{val}
use Rattle.extend.specs.LagrangeDefinition.{flag, others, product}
use Rattle.extend.proofs.lagrange.product.Given as goal

abbrev pub invariant-loop-j : goal.invariant-loop-j
invariant-loop-j l = val l.b ≡ product l.j (others (flag l.pending) l.i) l.k
