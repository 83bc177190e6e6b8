-- A swap has room for the new length.
use Rattle.solver.specs.SwapStep.{swap-k}
use Rattle.solver.proofs.swap.next_length.Goals as goal

pub returns : goal.returns
returns c = swap-k c.args.r c.args.length c.requires
