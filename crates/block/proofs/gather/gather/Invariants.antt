-- The data of the first i subwords are gathered.
use Rattle.std.proofs.Common.{length, take, ◌≡◌}
use Rattle.profile.specs.Definition.{data_size, data_start}
use Rattle.block.specs.Gather.{data_before}
use Rattle.block.proofs.gather.gather.Given as goal

abbrev pub invariant-loop-i : goal.invariant-loop-i
invariant-loop-i l =
    (l.at ≡ data_start l.p l.i) × (length l.out ≡ data_size l.p)
    × (take l.at l.out ≡ data_before l.p l.i l.block)
