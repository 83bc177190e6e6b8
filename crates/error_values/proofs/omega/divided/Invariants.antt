-- Each coefficient comes from the one before by a lookup: v is the last one.
use Rattle.std.proofs.Common.{◌≡◌}
use Rattle.field.specs.Field.{of}
use Rattle.series.specs.Series.{Z, ◌⊠◌}
use Rattle.series.specs.Array.{Filled}
use Rattle.polynomial.specs.Polynomial.{row as Row}
use Rattle.kernel.specs.ProductRow.{factor}
use Rattle.error_values.specs.OmegaValue.{quotient}
use Rattle.error_values.proofs.omega.divided.Given as goal

abbrev pub invariant-loop-j : goal.invariant-loop-j
invariant-loop-j l =
    Filled 48 l.j (quotient (factor l.row.products) (Row l.s)) l.out
    × (of l.v ≡ (Z ⊠ quotient (factor l.row.products) (Row l.s)) l.j)
