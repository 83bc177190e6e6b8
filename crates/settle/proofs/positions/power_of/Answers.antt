-- A lookup.
use Rattle.std.proofs.Common.{List, ap, get_or, ℕ, ◌∙◌}
use Rattle.field.specs.Field.{of, val_of}
use Rattle.settle.specs.PositionsExponent.{symbol, symbol-table}
use Rattle.settle.proofs.positions.power_of.Goals as goal

pub returns : goal.returns
returns c =
    let index = c.index in
    val_of _
    ∙ ap (λ (l : List ℕ). of (get_or l index.result 0)) c.power.invariant
    ∙ symbol-table index.result index.ensures.1
    ∙ ap symbol index.ensures.0
