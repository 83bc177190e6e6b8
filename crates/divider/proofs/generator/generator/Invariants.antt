-- The j top coefficients stand, and e is the exponent of the last.
use Rattle.std.proofs.Common.{length, ◌-◌, ◌<◌, ◌≡◌}
use Rattle.field.specs.Field.{α, pow}
use Rattle.series.specs.Series.{◌⊠◌}
use Rattle.series.specs.Shift.{zpow, drop}
use Rattle.series.specs.Array.{bytes}
use Rattle.divider.specs.Generator.{generator, aligned}
use Rattle.divider.proofs.generator.generator.Given as goal

abbrev pub invariant-loop-j : goal.invariant-loop-j
invariant-loop-j l =
    (length l.g ≡ 48) × (l.e.0 < 255) × (pow α l.e.0 ≡ generator l.first l.k (l.k - l.j))
    × (bytes l.g ≡ zpow (48 - l.j) ⊠ drop (48 - l.j) (aligned l.first l.k))
