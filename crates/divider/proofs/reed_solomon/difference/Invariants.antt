-- The first q symbols stand.
use Rattle.std.proofs.Common.{length, ◌≡◌}
use Rattle.series.specs.Series.{◌⊞◌}
use Rattle.series.specs.Shift.{cut, drop}
use Rattle.series.specs.Array.{bytes}
use Rattle.divider.proofs.reed_solomon.difference.Given as goal

abbrev pub invariant-loop-q : goal.invariant-loop-q
invariant-loop-q l = (length l.out ≡ 48)
    × (bytes l.out ≡ cut l.q (bytes l.word ⊞ drop l.above (bytes l.checks)))
