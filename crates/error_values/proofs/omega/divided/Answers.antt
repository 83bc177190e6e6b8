use Rattle.std.proofs.Common.{add-one, ap, ap₂, arith, refl, sym, ◌∙◌, ◌≡◌}
use Rattle.field.specs.Field.{F, ◌⊕◌, ◌⊙◌, of_zero, of_xor, val_of}
use Rattle.series.specs.Series.{Z, ◌⊠◌, Z-⊠_at0, Z-⊠-at}
use Rattle.series.specs.Shift.{cut}
use Rattle.series.specs.Array.{filled_none, filled_more}
use Rattle.polynomial.specs.Polynomial.{row as Row, row_at as Row-at, row-values}
use Rattle.kernel.specs.ProductRow.{factor}
use Rattle.error_values.specs.OmegaValue.{quotient, quotient-next}
use Rattle.error_values.proofs.omega.divided.Goals as goal

pub loop-j-init : goal.loop-j-init
loop-j-init c = (filled_none 48 _, of_zero ∙ sym (Z-⊠_at0 _))

pub loop-j-preserved : goal.loop-j-preserved
loop-j-preserved c =
    let now = c.loop-j in
    let row = c.args.row.now.products in
    let found = c.times-v.ensures _ refl
    ∙ ap (λ (x : F). factor row ⊙ x)
    (of_xor _ _ ∙ ap₂ ◌⊕◌ now.invariant.1 (sym (Row-at c.args.s now.j (omega arith) ∙ val_of _)))
    ∙ sym (quotient-next (factor row) (Row c.args.s) now.j) in (
      filled_more _ now.invariant.0 (omega arith) (val_of _ ∙ found),
      found ∙ sym (Z-⊠-at _ now.j) ∙ ap (Z ⊠ quotient (factor row) (Row c.args.s)) (sym (add-one now.j)),
    )

pub returns : goal.returns
returns c =
    let end = c.loop-j in
    let given = c.args in
    let all : end.j ≡ 48 = omega arith in
    row-values _ end.invariant.0.long ∙ end.invariant.0.is
    ∙ ap (λ k. cut k (quotient (factor given.row.now.products) (Row given.s))) all
