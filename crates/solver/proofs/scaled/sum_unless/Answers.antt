-- The code decides as the definition does.
use Rattle.std.proofs.Common.{false, sym, true, ◌∙◌, ◌≡◌}
use Rattle.field.specs.Field.{val, is_zero}
use Rattle.series.specs.Series.{⊞-zero}
use Rattle.key_equation.specs.Scaled.{unless}
use Rattle.solver.proofs.scaled.sum_unless.Goals as goal

pub returns-then-is_zero : goal.returns-then-is_zero
unfolding unless
returns-then-is_zero c =
    let z : is_zero (val c.args.x) ≡ true = sym c.is_zero.ensures ∙ c.if-is_zero.true in
    rw z (sym (⊞-zero _))

pub returns-else-is_zero : goal.returns-else-is_zero
unfolding unless
returns-else-is_zero c =
    let z : is_zero (val c.args.x) ≡ false = sym c.is_zero.ensures
    ∙ c.if-is_zero.false in
    rw z c.sum.ensures
