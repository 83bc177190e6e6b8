-- Part after part is added, and what each changes counted.
use Rattle.std.proofs.Common.{◌*◌, ◌≡◌}
use Rattle.series.specs.Series.{◌⊞◌, ◌⊠◌}
use Rattle.series.specs.Shift.{zpow, cut}
use Rattle.series.specs.Array.{bytes, values}
use Rattle.staged_decoding.specs.Definition.{bit_weight}
use Rattle.stages.proofs.subword.correct.Given as goal

abbrev pub invariant-loop-k : goal.invariant-loop-k
invariant-loop-k l =
    (bytes l.block ≡ bytes l.initial.block ⊞ zpow l.a ⊠ cut (51 * l.k) (values l.pattern))
    × (l.bits ≡ bit_weight (51 * l.k) (values l.pattern))
