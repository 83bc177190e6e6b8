-- The first q symbols are raised.
use Rattle.std.proofs.Common.{length, ◌≡◌}
use Rattle.field.specs.Field.{𝟏, α, pow}
use Rattle.series.specs.Series.{K, ◌⊞◌, ◌⊠◌}
use Rattle.series.specs.Shift.{cut}
use Rattle.series.specs.Array.{bytes}
use Rattle.encoder.specs.CarryRise.{change}
use Rattle.encoder.proofs.carry.rise.Given as goal

abbrev pub invariant-loop-q : goal.invariant-loop-q
invariant-loop-q l =
    (length l.word ≡ length l.initial.word)
    × (bytes l.word ≡ bytes l.initial.word ⊞ K 𝟏 ⊠ cut l.q (change (pow α l.l) (bytes l.initial.word) (bytes l.from)))
