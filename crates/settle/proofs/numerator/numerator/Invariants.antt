-- The locator's first i terms times the first 32 syndromes stand.
use Rattle.std.proofs.Common.{◌≡◌}
use Rattle.series.specs.Series.{◌⊠◌}
use Rattle.series.specs.Shift.{cut}
use Rattle.series.specs.Array.{bytes}
use Rattle.polynomial.specs.Polynomial.{poly, row as Row}
use Rattle.settle.proofs.numerator.numerator.Given as goal

abbrev pub invariant-loop-i : goal.invariant-loop-i
invariant-loop-i l = bytes l.sum ≡ cut l.i (poly l.locator) ⊠ cut 32 (Row l.row)
