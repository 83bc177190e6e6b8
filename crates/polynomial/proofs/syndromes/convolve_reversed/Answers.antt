use Rattle.std.proofs.Common.{ap₂, arith, rules, sym, ◌∙◌}
use Rattle.field.specs.Field.{◌⊕◌, val-zero}
use Rattle.series.specs.Sum.{sum-none}
use Rattle.polynomial.specs.Polynomial.{poly-at, below-poly}
use Rattle.polynomial.specs.SyndromesReversed.{sum-next, reversed-sum, product-past}
use Rattle.polynomial.proofs.syndromes.convolve_reversed.Goals as goal

pub returns-then-r-gt-HIGHEST : goal.returns-then-r-gt-HIGHEST
returns-then-r-gt-HIGHEST c g b e = val-zero ∙ sym (product-past _ _ g c.if-r-gt-HIGHEST.true (below-poly _) b)

pub loop-x-init : goal.loop-x-init
loop-x-init c = (search rules, val-zero ∙ sym (sum-none _))

pub loop-x-preserved : goal.loop-x-preserved
loop-x-preserved c =
    let inv = c.loop-x.invariant in
    let l = c.loop-x-test.true in
    (omega arith, c.sum-d.ensures ∙ ap₂ ◌⊕◌ inv.1 (sym (poly-at _ _ l)) ∙ sym (sum-next _ _))

pub returns : goal.returns
returns c g b e =
    let end = c.loop-x in
    end.invariant.1
    ∙ reversed-sum _ _ _ g _ _ (omega arith) c.if-r-gt-HIGHEST.false (below-poly _) e c.products-p.ensures
