-- The first i flags stand.
use Rattle.std.proofs.Common.{Bool, get_or, length, ℕ, ◌<◌, ◌≡◌}
use Rattle.stages.specs.declared.subword.State.{State}
use Rattle.stages.specs.View.{pending?}
use Rattle.stages.proofs.pending.Given as goal

abbrev pub invariant-loop-i : goal.invariant-loop-i
invariant-loop-i l =
    (length l.flags ≡ 8)
    × ((j : ℕ) (d : State) (e : Bool) → j < l.i → get_or l.flags j e ≡ pending? (get_or l.states j d))
