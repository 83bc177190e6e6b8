-- d is the sum of the products passed.
use Rattle.std.proofs.Common.{◌≡◌, ◌≤◌}
use Rattle.field.specs.Field.{val}
use Rattle.series.specs.Sum.{sum}
use Rattle.polynomial.specs.Polynomial.{poly}
use Rattle.polynomial.proofs.syndromes.convolve_reversed.Given as goal

abbrev pub invariant-loop-x : goal.invariant-loop-x
invariant-loop-x l = (l.x-index ≤ 49) × (val l.d ≡ sum l.x-index (poly l.x-items))
