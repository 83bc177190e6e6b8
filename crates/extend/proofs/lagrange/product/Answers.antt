use Rattle.std.proofs.Common.{ap, arith, sym, ◌∙◌, ◌≡◌}
use Rattle.field.specs.Field.{val-one}
use Rattle.extend.specs.LagrangeDefinition.{flag, others, product}
use Rattle.extend.specs.Lagrange.{product-none, product-next}
use Rattle.extend.proofs.lagrange.product.Goals as goal

pub loop-j-init : goal.loop-j-init
loop-j-init c = val-one ∙ sym (product-none _ _)

pub loop-j-preserved : goal.loop-j-preserved
loop-j-preserved c =
    let now = c.loop-j in
    let given = c.args in
    let b = others (flag given.pending) given.i in
    product-next now.j b _ _ _ _ c.power-x.ensures now.invariant c.times-b.ensures

pub returns : goal.returns
returns c =
    let end = c.loop-j in
    let given = c.args in
    let e : end.j ≡ given.p.subwords = omega arith in
    end.invariant ∙ ap (λ j. product j (others (flag given.pending) given.i) given.k) e
