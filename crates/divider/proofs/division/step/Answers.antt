-- One symbol up, and the multiple of the polynomial that takes the last symbol away.
use Rattle.divider.specs.DivisionLeaves.{feeds}
use Rattle.divider.proofs.division.step.Goals as goal

pub returns : goal.returns
returns g c =
    feeds g.W.Width.row_at c.args.t.now _ _ _ c.args.x _ c.requires c.index.ensures c.row.ensures.0 c.shifted.ensures
