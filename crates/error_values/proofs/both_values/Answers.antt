-- The row's factor is W p.
use Rattle.std.proofs.Common.{ap₂, refl, rules, ◌∙◌}
use Rattle.field.specs.Field.{◌⊙◌}
use Rattle.series.specs.Degree.{below-cut_eq}
use Rattle.series.specs.Value.{below-odd}
use Rattle.polynomial.specs.Polynomial.{below-poly}
use Rattle.error_values.specs.RowValue.{row-value}
use Rattle.error_values.proofs.both_values.Goals as goal

pub returns : goal.returns
returns c =
    let row = c.inverse_row-row.ensures in
    c.product.ensures
    ∙ ap₂ ◌⊙◌
    (c.value.ensures _ refl ∙ row-value _ _ _ _ row (search rules) c.all-all.ensures)
    (c.value-2.ensures _ refl
    ∙ row-value _ _ _ _ row (search rules)
    (c.odd-odds.ensures ∙ below-cut_eq 49 _ (below-odd 49 _ (below-poly _))))
