-- The first j entries are products.
use Rattle.std.proofs.Common.{length, ◌≡◌}
use Rattle.field.specs.Field.{of}
use Rattle.series.specs.Series.{K, ◌⊠◌}
use Rattle.series.specs.Shift.{cut}
use Rattle.series.specs.Array.{bytes}
use Rattle.divider.proofs.evaluation.times.Given as goal

abbrev pub invariant-loop-j : goal.invariant-loop-j
invariant-loop-j l = (length l.out ≡ 64) × (bytes l.out ≡ cut l.j (K (of l.c) ⊠ bytes l.list))
