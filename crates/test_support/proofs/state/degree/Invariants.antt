-- What is passed is zero.
use Rattle.std.proofs.Common.{◌<◌, ◌≡◌, ◌-◌}
use Rattle.test_support.specs.State.{top}
use Rattle.test_support.proofs.state.degree.Given as goal

abbrev pub invariant-loop-n : goal.invariant-loop-n
invariant-loop-n l = (0 < l.n) × (top l.f (l.n - 1) ≡ top l.f 48)
