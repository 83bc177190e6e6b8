-- The first q symbols stand.
use Rattle.std.proofs.Common.{length, ◌≡◌}
use Rattle.encoder.specs.CarrySubword.{Placed}
use Rattle.encoder.proofs.carry.place.Given as goal

abbrev pub invariant-loop-q : goal.invariant-loop-q
invariant-loop-q l =
    (length l.word ≡ length l.initial.word) × Placed l.k l.q l.input l.e l.word
