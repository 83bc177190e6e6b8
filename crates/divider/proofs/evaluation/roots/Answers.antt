-- The roots from α on, or these times a power of α.
use Rattle.std.proofs.Common.{ap, ap₂, sym, ℕ, ◌∙◌}
use Rattle.field.specs.Field.{F, val_of}
use Rattle.series.specs.Series.{Series, K, ◌⊠◌}
use Rattle.series.specs.Shift.{cut}
use Rattle.code.specs.Word.{root}
use Rattle.divider.specs.EvaluationLanes.{roots-times}
use Rattle.divider.proofs.evaluation.roots.Goals as goal

pub returns-then-first-eq1 : goal.returns-then-first-eq1
returns-then-first-eq1 c = c.first_roots-list.ensures ∙ ap (λ (f : ℕ). cut 64 (root f)) (sym c.if-first-eq1.true)

pub returns : goal.returns
returns c =
    c.times.ensures
    ∙ ap₂ (λ (a : F) (f : Series). K a ⊠ f) (sym (val_of _) ∙ c.power-c.ensures) c.first_roots-list.ensures
    ∙ roots-times c.args.first
