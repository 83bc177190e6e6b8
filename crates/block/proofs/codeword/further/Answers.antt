-- There are at least 2 t0.
use Rattle.std.proofs.Common.{arith}
use Rattle.profile.specs.Valid.{checks-least}
use Rattle.block.proofs.codeword.further.Goals as goal

pub overflow_sub-result : goal.overflow_sub-result
overflow_sub-result c = omega (arith, checks-least c.args.p c.requires 0, c.checks.ensures)

pub returns : goal.returns
returns c = omega (arith, c.checks.ensures)
