-- The walk stands at position p, for whatever locator has these values and this odd part.
use Rattle.std.proofs.Common.{◌≡◌}
use Rattle.series.specs.Series.{Series}
use Rattle.series.specs.Shift.{cut}
use Rattle.series.specs.Value.{value, odd}
use Rattle.series.specs.Array.{values as Values, bytes}
use Rattle.settling.specs.Locator.{W}
use Rattle.settle.specs.CandidateLocated.{Walking}
use Rattle.settle.proofs.candidate.walk.Given as goal

abbrev pub invariant-loop-p : goal.invariant-loop-p
invariant-loop-p l =
    (Λ : Series) → Values l.values ≡ cut 255 (λ q. value l.k Λ (W q)) → bytes l.odds ≡ cut l.k (odd Λ)
    → Walking l.k l.roots Λ (bytes l.numerator) l.p l.missing l.pattern
