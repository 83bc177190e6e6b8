-- The first i entries are doubled.
use Rattle.std.proofs.Common.{length, ◌≡◌}
use Rattle.field.specs.Field.{α}
use Rattle.series.specs.Series.{K, ◌⊠◌}
use Rattle.series.specs.Shift.{cut}
use Rattle.series.specs.Array.{bytes}
use Rattle.divider.proofs.multiples.doubled.Given as goal

abbrev pub invariant-loop-i : goal.invariant-loop-i
invariant-loop-i l = (length l.out ≡ 48) × (bytes l.out ≡ cut l.i (K α ⊠ bytes l.list))
