-- The first w rows stand, w a power of two, and w times the list is in top.
use Rattle.std.proofs.Common.{length, ◌-◌, ◌≡◌}
use Rattle.series.specs.Array.{bytes}
use Rattle.divider.specs.MultiplesBuilding.{Built}
use Rattle.divider.proofs.multiples.build.Given as goal

abbrev pub invariant-loop-w : goal.invariant-loop-w
invariant-loop-w g l =
    (length l.t ≡ length l.initial.t) × Built g.W.Width.row_at (bytes l.initial.top) l.w l.top l.t

abbrev pub decreases-loop-w : goal.decreases-loop-w
decreases-loop-w g l = 256 - l.w
