-- The first i symbols are added, and v holds the others.
use Rattle.std.proofs.Common.{length, ℕ, ◌+◌, ◌≡◌}
use Rattle.series.specs.Series.{◌⊞◌, ◌⊠◌}
use Rattle.series.specs.Shift.{zpow, cut}
use Rattle.series.specs.Array.{bytes}
use Rattle.divider.specs.Packed.{digits}
use Rattle.divider.proofs.packed.add_word.Given as goal

abbrev pub invariant-loop-i : goal.invariant-loop-i
invariant-loop-i l =
    (length l.out ≡ length l.initial.out) × ((k : ℕ) → digits l.v k ≡ digits l.w (l.i + k))
    × (bytes l.out ≡ bytes l.initial.out ⊞ zpow l.at ⊠ cut l.i (digits l.w))
