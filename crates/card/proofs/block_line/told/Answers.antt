-- Accepted, or refused.
use Rattle.std.proofs.Common.{ap, sym, ◌∙◌}
use Rattle.card.specs.BlockLineDefinition.{told}
use Rattle.card.proofs.block_line.told.Goals as goal

pub returns-in-Ok : goal.returns-in-Ok
returns-in-Ok c =
    c.ok.ensures ∙ ap (λ a. told c.args.i a c.args.last c.args.changed c.args.bits) (sym c.in-Ok.is)

pub returns-in-Err : goal.returns-in-Err
returns-in-Err c =
    rw c.into.ensures at c.refused.ensures
    ∙ ap (λ a. told c.args.i a c.args.last c.args.changed c.args.bits) (sym c.in-Err.is)
