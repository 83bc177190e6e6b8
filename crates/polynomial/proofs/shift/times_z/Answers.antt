use Rattle.std.proofs.Common.{add-one, ap, arith, sym, ◌+◌, ◌∙◌}
use Rattle.series.specs.Series.{Z, ◌⊠◌, Z-⊠_at0, Z-⊠-at}
use Rattle.series.specs.Shift.{cut_low}
use Rattle.series.specs.Degree.{below-cut}
use Rattle.series.specs.Array.{filled_none, filled_skip, filled_more}
use Rattle.polynomial.specs.Polynomial.{poly-at, poly-filled}
use Rattle.polynomial.proofs.shift.times_z.Goals as goal

pub loop-i-init : goal.loop-i-init
loop-i-init c = filled_skip 1 (filled_none 49 _) (cut_low 49 _ 0 (omega arith) ∙ Z-⊠_at0 _) (omega arith)

pub loop-i-preserved : goal.loop-i-preserved
loop-i-preserved c =
    let now = c.loop-i in
    filled_more _ now.invariant (omega arith)
    (sym (cut_low 49 _ (now.i + 1) (omega arith) ∙ ap (Z ⊠ _) (add-one _) ∙ Z-⊠-at _ _ ∙ poly-at _ _ (omega arith)))

pub returns : goal.returns
returns c = poly-filled 49 c.loop-i.invariant (omega arith) (below-cut 49 _)
