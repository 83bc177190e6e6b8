-- The first i numbers are written.
use Rattle.std.proofs.Common.{drop, take, ◌++◌, ◌≡◌}
use Rattle.gii.proofs.numbers.fill.Given as goal

abbrev pub invariant-loop-i : goal.invariant-loop-i
invariant-loop-i l = l.to ≡ take l.i l.list ++ drop l.i l.initial.to
