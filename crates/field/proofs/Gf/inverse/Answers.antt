-- The inverse of α^a is α^(255 - a).
use Rattle.std.proofs.Common.{ap, arith, rules, sym, ℕ, ◌-◌, ◌∙◌}
use Rattle.field.specs.Definition.{α, pow, inv, val}
use Rattle.field.specs.Byte.{val-zero, val-is-zero, val_nonzero}
use Rattle.field.proofs.Log.{log_lt}
use Rattle.field.proofs.Inverse.{inv-zero, log_inverse}
use Rattle.field.proofs.Gf.inverse.Goals as goal

pub returns-then-self-eq0 : goal.returns-then-self-eq0
returns-then-self-eq0 c = val-zero ∙ sym (ap inv (val-is-zero _ c.if-self-eq0.true) ∙ inv-zero)

pub overflow_sub-k : goal.overflow_sub-k
overflow_sub-k c = omega (arith, c.log-k.ensures, log_lt (val c.args.self))

pub returns : goal.returns
returns c =
    c.power.ensures
    ∙ ap (λ (k : ℕ). pow α (255 - k)) c.log-k.ensures
    ∙ log_inverse _ (val_nonzero _ (search rules) c.if-self-eq0.false)
