-- The symbols from `from` to q - 1 are added, and their bits counted.
use Rattle.std.proofs.Common.{◌+◌, ◌≡◌}
use Rattle.series.specs.Series.{◌⊞◌, ◌⊠◌}
use Rattle.series.specs.Shift.{zpow, cut}
use Rattle.series.specs.Array.{bytes, values}
use Rattle.staged_decoding.specs.Definition.{bit_weight}
use Rattle.stages.proofs.subword.correct_part.Given as goal

abbrev pub invariant-loop-q : goal.invariant-loop-q
invariant-loop-q l =
    (bytes l.block ⊞ zpow l.a ⊠ cut l.from (values l.pattern) ≡ bytes l.initial.block ⊞ zpow l.a ⊠ cut l.q (values
    l.pattern))
    × (l.bits + bit_weight l.from (values l.pattern) ≡ bit_weight l.q (values l.pattern))
