-- The first i coefficients are appended.
use Rattle.std.proofs.Common.{◌≤◌}
use Rattle.listing.specs.Definition.{Appended}
use Rattle.test_support.specs.Text.{each}
use Rattle.test_support.specs.State.{coefficient_text}
use Rattle.test_support.proofs.state.polynomial.Given as goal

abbrev pub invariant-loop-i : goal.invariant-loop-i
invariant-loop-i g l =
    (l.n ≤ 49) × Appended g.row.N (each (coefficient_text l.f) l.i) l.initial.line l.line
