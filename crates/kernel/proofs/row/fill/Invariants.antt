-- The first w entries stand, w a power of two, and top is w times c.
use Rattle.std.proofs.Common.{length, ◌-◌}
use Rattle.field.specs.Field.{of}
use Rattle.kernel.specs.ProductRow.{Level}
use Rattle.kernel.proofs.row.fill.Given as goal

abbrev pub invariant-loop-w : goal.invariant-loop-w
invariant-loop-w l = Level (length l.initial.row) (of l.c) l.w l.top l.row

abbrev pub decreases-loop-w : goal.decreases-loop-w
decreases-loop-w l = length l.initial.row - l.w
