-- The table, reversed.
use Rattle.polynomial.specs.Polynomial.{below_row}
use Rattle.polynomial.proofs.syndromes.convolve.Goals as goal

pub returns : goal.returns
returns c = c.convolve_reversed.ensures _ (below_row _) c.reversed-t.ensures
