use Rattle.std.proofs.Common.{ap₂, arith, sym, ◌∙◌}
use Rattle.field.specs.Field.{◌⊙◌, val_of}
use Rattle.series.specs.Array.{read_at, filled_none, filled_more}
use Rattle.polynomial.specs.Polynomial.{poly-at, poly-filled}
use Rattle.polynomial.specs.SyndromesReversed.{below-products}
use Rattle.polynomial.proofs.syndromes.products.Goals as goal

pub loop-q-init : goal.loop-q-init
loop-q-init c = filled_none 49 _

pub loop-q-preserved : goal.loop-q-preserved
loop-q-preserved c =
    filled_more _ c.loop-q.invariant (omega arith)
    (c.product.ensures ∙ sym (ap₂ ◌⊙◌ (poly-at _ _ (omega arith)) (read_at _ _ _ _ ∙ sym (val_of _))))

pub returns : goal.returns
returns c =
    poly-filled _ c.loop-q.invariant c.loop-q-test.false
    (below-products _ _ _ c.extent-q-end.ensures.0)
