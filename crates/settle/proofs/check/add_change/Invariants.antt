-- The exponent e gives syndrome j of the change; those below j are added.
use Rattle.std.proofs.Common.{◌<◌, ◌≡◌}
use Rattle.field.specs.Field.{α, ◌⊙◌, pow}
use Rattle.series.specs.Series.{K, ◌⊞◌, ◌⊠◌}
use Rattle.series.specs.Shift.{cut}
use Rattle.series.specs.Array.{bytes}
use Rattle.settling.specs.Locator.{X}
use Rattle.settle.proofs.check.add_change.Given as goal

abbrev pub invariant-loop-j : goal.invariant-loop-j
invariant-loop-j l =
    (l.e.0 < 255)
    × (pow α l.e.0 ≡ pow α l.initial.e.0 ⊙ pow (X l.p) l.j)
    × (bytes l.to ≡ bytes l.initial.to ⊞ K (pow α l.initial.e.0) ⊠ cut l.j (pow (X l.p)))
