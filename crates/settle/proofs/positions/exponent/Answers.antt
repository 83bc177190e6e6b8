-- By the logarithm, which zero has not.
use Rattle.std.proofs.Common.{arith, sym, ◌∙◌}
use Rattle.field.specs.Field.{val, is_zero_true, is_zero_false}
use Rattle.field.proofs.Field.{log_lt}
use Rattle.settle.specs.PositionsExponent.{symbol-none, symbol-log}
use Rattle.settle.proofs.positions.exponent.Goals as goal

pub returns-then-is_zero : goal.returns-then-is_zero
returns-then-is_zero c = symbol-none ∙ sym (is_zero_true _ (sym c.is_zero.ensures ∙ c.if-is_zero.true))

pub overflow_cast-result : goal.overflow_cast-result
overflow_cast-result c = omega (arith, c.log.ensures, log_lt (val c.args.g))

pub returns-else-is_zero : goal.returns-else-is_zero
returns-else-is_zero c = symbol-log _ _ (is_zero_false _ (sym c.is_zero.ensures ∙ c.if-is_zero.false)) c.log.ensures
