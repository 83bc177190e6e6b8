-- The first j symbols have got their multiples.
use Rattle.std.proofs.Common.{◌≡◌}
use Rattle.field.specs.Field.{F}
use Rattle.series.specs.Series.{K, ◌⊞◌, ◌⊠◌}
use Rattle.series.specs.Shift.{cut}
use Rattle.series.specs.Array.{bytes}
use Rattle.kernel.proofs.multiplier.add_scaled.Given as goal

abbrev pub invariant-loop-j : goal.invariant-loop-j
invariant-loop-j g l = (c : F) → g.M.Multiplier.is_by l.m c
    → bytes l.to ≡ bytes l.initial.to ⊞ K c ⊠ cut l.j (bytes l.from)
