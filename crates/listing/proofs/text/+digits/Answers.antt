-- What stands before the last digit is a tenth of the digits.
use Rattle.std.proofs.Common.{arith}
use Rattle.listing.specs.Laws.{stored-low, stored-high}
use Rattle.listing.proofs.text.+digits.Goals as goal

pub returns-then-n-lt10 : goal.returns-then-n-lt10
returns-then-n-lt10 t c = stored-low c.if-n-lt10.true c.byte.ensures

pub returns : goal.returns
returns t c = stored-high (omega (arith, c.if-n-lt10.false)) c.digits-end.ensures c.byte-2.ensures
