-- Both numbers and their difference fit an i32; the definition has twice the length.
use Rattle.std.proofs.Common.{arith, ◌*◌, ◌∙◌}
use Rattle.solver.specs.SwapSigned.{cast_fits, cast_difference, k_is}
use Rattle.solver.proofs.swap.k.Goals as goal

pub overflow_sub-result : goal.overflow_sub-result
overflow_sub-result c = cast_fits c.args.r (2 * c.args.length) (omega arith)

pub returns : goal.returns
returns c = cast_difference c.args.r (2 * c.args.length) (omega arith) ∙ k_is c.args.r c.args.length _ (omega arith)
