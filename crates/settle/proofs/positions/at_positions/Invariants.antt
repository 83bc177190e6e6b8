-- The terms at position p stand, and the values at the positions before it, 85 on and 170 on.
use Rattle.std.proofs.Common.{◌≡◌}
use Rattle.series.specs.Value.{value}
use Rattle.settling.specs.Locator.{W}
use Rattle.settle.specs.PositionsTerm.{terms}
use Rattle.settle.specs.PositionsExponent.{symbols}
use Rattle.settle.specs.PositionsThird.{Placed}
use Rattle.settle.proofs.positions.at_positions.Given as goal

abbrev pub invariant-loop-p : goal.invariant-loop-p
invariant-loop-p l =
    (symbols l.e ≡ terms (W l.p) (symbols l.initial.e))
    × Placed l.p (λ q. value l.k (symbols l.initial.e) (W q)) l.out
