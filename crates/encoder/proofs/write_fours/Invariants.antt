-- The subwords from m - 4 q on are right, and the data of those before it end at `end`.
use Rattle.std.proofs.Common.{◌*◌, ◌-◌}
use Rattle.encoder.specs.Write.{DownTo}
use Rattle.encoder.proofs.write_fours.Given as goal

abbrev pub invariant-loop-q : goal.invariant-loop-q
invariant-loop-q l = DownTo l.p l.input l.out (l.m - 4 * l.q) l.end
