-- The three steps.
use Rattle.std.proofs.Common.{arith}
use Rattle.encoder.specs.CarrySubword.{filled_is}
use Rattle.encoder.proofs.carry.fill.Goals as goal

pub returns : goal.returns
returns c =
    filled_is c.args.first c.args.k _ _ c.args.word.now _ _ _ (omega arith)
    c.place.ensures c.encode.ensures c.add.ensures
