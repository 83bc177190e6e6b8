use Rattle.std.proofs.Common.{add-one, ap, arith, sym, ◌∙◌}
use Rattle.series.specs.Series.{tail_at}
use Rattle.series.specs.Degree.{below-tail}
use Rattle.series.specs.Array.{filled_none, filled_more}
use Rattle.polynomial.specs.Polynomial.{poly, poly-at, below-poly, poly-filled}
use Rattle.polynomial.proofs.shift.over_z.Goals as goal

pub loop-i-init : goal.loop-i-init
loop-i-init c = filled_none 49 _

pub loop-i-preserved : goal.loop-i-preserved
loop-i-preserved c =
    let now = c.loop-i in
    filled_more _ now.invariant (omega arith)
    (sym (tail_at _ _ ∙ ap (poly _) (sym (add-one _)) ∙ poly-at _ _ (omega arith)))

pub returns : goal.returns
returns c = poly-filled 48 c.loop-i.invariant (omega arith) (below-tail 48 _ (below-poly _))
