-- The sum is not zero, so it is the power of its logarithm.
use Rattle.std.proofs.Common.{arith}
use Rattle.field.specs.Field.{val, val-one}
use Rattle.field.proofs.Field.{log_lt}
use Rattle.divider.specs.GeneratorCoefficients.{zech-log}
use Rattle.divider.proofs.generator.zech.Goals as goal

pub returns : goal.returns
returns c = (
  zech-log c.args.i _ _ _ _ c.requires.2 c.power_in-a.ensures val-one c.sum.ensures
      c.log_in.ensures,
  omega (arith, c.log_in.ensures, log_lt (val c.sum.result)),
)
