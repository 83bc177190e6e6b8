-- A scalar passes through the cut.
use Rattle.std.proofs.Common.{sym, ◌∙◌}
use Rattle.series.specs.Shift.{cut-K-⊠}
use Rattle.solver.proofs.scaled.scale_shifted.Goals as goal

pub returns : goal.returns
returns c = c.scale.ensures ∙ rw c.times_z.ensures (sym (cut-K-⊠ 49 _ _))
