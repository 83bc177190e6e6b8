-- The first j products are added, from place a on.
use Rattle.std.proofs.Common.{◌≡◌}
use Rattle.field.specs.Field.{val}
use Rattle.series.specs.Series.{K, ◌⊞◌, ◌⊠◌}
use Rattle.series.specs.Shift.{zpow, cut}
use Rattle.series.specs.Array.{bytes}
use Rattle.polynomial.specs.Polynomial.{row as Row}
use Rattle.settle.proofs.numerator.add_term.Given as goal

abbrev pub invariant-loop-j : goal.invariant-loop-j
invariant-loop-j l = bytes l.to ≡ bytes l.initial.to ⊞ zpow l.a ⊠ cut l.j (K (val l.c) ⊠ Row l.row)
