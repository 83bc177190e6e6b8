-- A power of zero is zero; that of a power of α is by its exponent.
use Rattle.std.proofs.Common.{ap, arith, mul-le-mul, sym, ◌*◌, ◌∙◌, ◌≤◌}
use Rattle.field.specs.Field.{F, α, val, pow, is_zero_true, is_zero_false}
use Rattle.field.proofs.Field.{log_lt}
use Rattle.binary.specs.Coefficients.{zero-pow}
use Rattle.binary.specs.LocationsLaws.{pow_by-log}
use Rattle.binary.proofs.locations.power.Goals as goal

pub returns-then-is_zero : goal.returns-then-is_zero
returns-then-is_zero c =
    let zero = is_zero_true (val c.args.x) (sym c.is_zero.ensures ∙ c.if-is_zero.true) in
    zero ∙ sym (ap (λ (s : F). pow s c.args.e) zero ∙ zero-pow _ c.requires.0)

pub overflow_mul-log : goal.overflow_mul-log
overflow_mul-log c =
    let k = c.log.result.0 in
    let small : k ≤ 254 = omega (arith, c.log.ensures, log_lt (val c.args.x)) in
    let most : k * c.args.e ≤ 254 * 254 = mul-le-mul small c.requires.1 in
    record { fits = omega arith }

pub returns : goal.returns
returns c =
    let x = val c.args.x in
    c.power.ensures ∙ ap (λ k. pow α (k * c.args.e)) c.log.ensures
    ∙ pow_by-log x _ (is_zero_false x (sym c.is_zero.ensures ∙ c.if-is_zero.false))
