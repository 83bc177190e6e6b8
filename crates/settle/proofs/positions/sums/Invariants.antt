-- The terms below 3m are added.
use Rattle.std.proofs.Common.{◌≡◌}
use Rattle.field.specs.Field.{val}
use Rattle.settle.specs.PositionsExponent.{symbols}
use Rattle.settle.specs.PositionsThird.{third}
use Rattle.settle.proofs.positions.sums.Given as goal

abbrev pub invariant-loop-m : goal.invariant-loop-m
invariant-loop-m l =
    (val l.a ≡ third 0 l.m (symbols l.e)) × (val l.b ≡ third 1 l.m (symbols l.e))
    × (val l.c ≡ third 2 l.m (symbols l.e))
