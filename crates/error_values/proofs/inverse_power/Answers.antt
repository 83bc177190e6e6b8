-- α^(255 − p) is W p.
use Rattle.std.proofs.Common.{ap, arith, sym, ◌∙◌}
use Rattle.field.specs.Field.{F, α, pow, pow_mul}
use Rattle.settling.specs.Locator.{W-is}
use Rattle.error_values.proofs.inverse_power.Goals as goal

pub returns : goal.returns
returns c =
    c.power.ensures
    ∙ pow_mul α _ c.args.k
    ∙ ap (λ (x : F). pow x c.args.k) (sym (W-is c.args.p (omega arith)))
