use Rattle.std.proofs.Common.{sym}
use Rattle.field.specs.Field.{val_of}
use Rattle.kernel.proofs.symbol.GfSymbol.byte.Goals as goal

pub returns : goal.returns
returns c = sym (val_of c.args.self)
