-- Entry i + 1 gets f[i], coefficient i + 1 of the product by z. Entry 0 stays zero.
use Rattle.std.proofs.Common.{◌+◌}
use Rattle.series.specs.Series.{Z, ◌⊠◌}
use Rattle.series.specs.Shift.{cut}
use Rattle.series.specs.Array.{Filled}
use Rattle.polynomial.specs.Polynomial.{poly}
use Rattle.polynomial.proofs.shift.times_z.Given as goal

abbrev pub invariant-loop-i : goal.invariant-loop-i
invariant-loop-i l = Filled 49 (l.i + 1) (cut 49 (Z ⊠ poly l.f)) l.out
