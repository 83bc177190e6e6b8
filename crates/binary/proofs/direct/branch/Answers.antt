-- The three tests are those of the definition.
use Rattle.std.proofs.Common.{ap, cond, ◌∙◌}
use Rattle.field.specs.Field.{is_zero}
use Rattle.binary.specs.Tables.{branch}
use Rattle.binary.proofs.direct.branch.Goals as goal

pub returns : goal.returns
unfolding branch
returns c a b d h =
    let x = c.is_zero.ensures ∙ ap is_zero h.s0 in
    let y = c.is_zero-2.ensures ∙ ap is_zero h.d1 in
    let z = c.is_zero-3.ensures ∙ ap is_zero h.phi in
    c.number.ensures
    ∙ (λ i. cond (x i) (cond (y i) 6 5) (cond (y i) (cond (z i) 3 2) (cond (z i) 1 0)))
