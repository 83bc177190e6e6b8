-- Two stores.
use Rattle.std.proofs.Common.{arith, length-set}
use Rattle.divider.specs.MultiplesBuilding.{two}
use Rattle.divider.proofs.multiples.two.Goals as goal

pub bounds-t-i-2 : goal.bounds-t-i-2
bounds-t-i-2 c = simp length-set (omega arith)

pub returns : goal.returns
returns c = two c.args.t.now c.args.i c.args.a c.args.b c.requires
