-- The row's factor is W p.
use Rattle.std.proofs.Common.{refl, rules, ◌∙◌}
use Rattle.series.specs.Degree.{below-cut_eq}
use Rattle.series.specs.Value.{below-odd}
use Rattle.polynomial.specs.Polynomial.{below-poly}
use Rattle.error_values.specs.RowValue.{row-value}
use Rattle.error_values.proofs.odd_value.Goals as goal

pub returns : goal.returns
returns c =
    c.value.ensures _ refl
    ∙ row-value _ _ _ _ c.inverse_row-row.ensures (search rules)
    (c.odd-part.ensures ∙ below-cut_eq 49 _ (below-odd 49 _ (below-poly _)))
