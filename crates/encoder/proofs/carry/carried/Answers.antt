-- Nothing, or the corner without the subword itself.
use Rattle.code.specs.Combined.{carried_none}
use Rattle.encoder.specs.CarryPascal.{carried-is}
use Rattle.encoder.proofs.carry.carried.Goals as goal

pub returns-then-p-i : goal.returns-then-p-i
returns-then-p-i c = carried_none _ _ _ 255 c.if-p-i.true

pub returns : goal.returns
returns c = carried-is _ _ _ _ _ c.corner-word.ensures c.add_subword.ensures
