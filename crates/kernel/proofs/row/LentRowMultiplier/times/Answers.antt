-- The entry is the product.
use Rattle.std.proofs.Common.{ap, rules, sym, ◌∙◌, ◌≡◌}
use Rattle.field.specs.Field.{F, ◌⊙◌, of}
use Rattle.series.specs.Array.{read_at}
use Rattle.kernel.specs.ProductRow.{row_at}
use Rattle.kernel.proofs.row.LentRowMultiplier.times.Goals as goal

pub returns : goal.returns
returns c a by =
    let i = c.from.result in
    let l = c.args.self.now.row.now in
    let e : i ≡ c.args.x = search rules in
    sym (read_at of 0 l i) ∙ row_at l i (search rules) (search rules) ∙ ap (λ (s : F). s ⊙ of i) by
    ∙ ap (λ k. a ⊙ of k) e
