-- The symbols passed are multiplied.
use Rattle.std.proofs.Common.{◌≡◌}
use Rattle.field.specs.Field.{F, 𝟏, ◌⊕◌}
use Rattle.series.specs.Series.{K, ◌⊞◌, ◌⊠◌}
use Rattle.series.specs.Shift.{cut}
use Rattle.series.specs.Array.{bytes}
use Rattle.kernel.proofs.multiplier.scale.Given as goal

abbrev pub invariant-loop-x : goal.invariant-loop-x
invariant-loop-x g l =
    let word = bytes l.initial.x-items in
    (c : F) → g.M.Multiplier.is_by l.m c → bytes l.x-items ≡ word ⊞ K (c ⊕ 𝟏) ⊠ cut l.x-index word
