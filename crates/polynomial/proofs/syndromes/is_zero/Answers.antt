-- All its values are looked at.
use Rattle.std.proofs.Common.{rules}
use Rattle.polynomial.specs.SyndromesZero.{zero-found}
use Rattle.polynomial.proofs.syndromes.is_zero.Goals as goal

pub returns : goal.returns
returns c = zero-found c.args.row _ (search rules) c.is_zero.ensures
