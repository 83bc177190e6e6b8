-- The three cases.
use Rattle.std.proofs.Common.{ap, sym, ◌∙◌}
use Rattle.field.specs.Field.{F, ◌⊕◌, ◌⊙◌, ⊙-one, val}
use Rattle.extend.specs.LagrangeDefinition.{flag}
use Rattle.extend.specs.Lagrange.{factor_own, factor-other, factor-none}
use Rattle.extend.proofs.lagrange.times.Goals as goal

pub returns-then-j-i : goal.returns-then-j-i
returns-then-j-i c =
    let given = c.args in
    sym (⊙-one _)
    ∙ ap (λ (t : F). val given.b ⊙ t) (factor_own (flag given.pending) given.i given.j _ c.if-j-i.true)

pub returns-then-pending-j : goal.returns-then-pending-j
returns-then-pending-j c =
    let given = c.args in
    c.product.ensures
    ∙ ap (λ (t : F). val given.b ⊙ t)
    (c.sum.ensures
    ∙ ap (λ (t : F). val given.x ⊕ t) c.power.ensures
    ∙ factor-other (flag given.pending) given.i given.j _ c.if-j-i.false c.if-pending-j.true)

pub returns : goal.returns
returns c =
    let given = c.args in
    sym (⊙-one _) ∙ ap (λ (t : F). val given.b ⊙ t)
    (factor-none (flag given.pending) given.i given.j _ c.if-j-i.false c.if-pending-j.false)
