-- The code decides as the definition does.
use Rattle.std.proofs.Common.{sym, true, ◌∙◌, ◌≡◌}
use Rattle.field.specs.Field.{val, val-one, is_zero}
use Rattle.solver.proofs.scaled.one_if_zero.Goals as goal

pub returns-then-is_zero : goal.returns-then-is_zero
returns-then-is_zero c =
    let z : is_zero (val c.args.d) ≡ true = sym c.is_zero.ensures ∙ c.if-is_zero.true in
    rw z val-one
