-- An array of zeros.
use Rattle.std.proofs.Common.{arith}
use Rattle.series.specs.Series.{O}
use Rattle.series.specs.Degree.{below-O}
use Rattle.series.specs.Array.{filled_none}
use Rattle.polynomial.specs.Polynomial.{poly-filled}
use Rattle.polynomial.proofs.zero.Goals as goal

pub returns : goal.returns
returns c = poly-filled 0 (filled_none 49 O) (omega arith) (below-O 0)
