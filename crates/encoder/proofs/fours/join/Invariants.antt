-- The first q symbols are added.
use Rattle.std.proofs.Common.{length, ◌≡◌}
use Rattle.series.specs.Series.{◌⊞◌, ◌⊠◌}
use Rattle.series.specs.Shift.{zpow, cut}
use Rattle.series.specs.Array.{bytes}
use Rattle.encoder.proofs.fours.join.Given as goal

abbrev pub invariant-loop-q : goal.invariant-loop-q
invariant-loop-q l =
    (length l.word ≡ length l.initial.word)
    × (bytes l.word ≡ bytes l.initial.word ⊞ zpow l.at ⊠ cut l.q (bytes l.from))
