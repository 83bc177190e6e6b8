-- The first x entries of the level stand; what is below w is kept.
use Rattle.std.proofs.Common.{◌≡◌}
use Rattle.field.specs.Field.{◌⊕◌, of}
use Rattle.series.specs.Series.{◌⊞◌, ◌⊠◌}
use Rattle.series.specs.Shift.{zpow, cut}
use Rattle.series.specs.Array.{bytes}
use Rattle.kernel.proofs.row.level.Given as goal

abbrev pub invariant-loop-x : goal.invariant-loop-x
invariant-loop-x l =
    bytes l.row ≡ bytes l.initial.row ⊞ zpow l.w ⊠ cut l.x (λ k. bytes l.initial.row k ⊕ of l.top)
