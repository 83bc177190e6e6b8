-- The sum up to r, each part below 256.
use Rattle.std.proofs.Common.{◌*◌, ◌≡◌, ◌≤◌}
use Rattle.profile.specs.Definition.{capability_sum}
use Rattle.profile.proofs.Profile.sum.Given as goal

abbrev pub invariant-loop-r : goal.invariant-loop-r
invariant-loop-r l = (l.n ≡ capability_sum l.self l.r) × (l.n ≤ 255 * l.r)
