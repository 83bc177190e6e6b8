-- The subwords from i + j on are right, and the data of those before it end where stretch j begins.
use Rattle.std.proofs.Common.{◌*◌, ◌+◌}
use Rattle.encoder.specs.Write.{DownTo}
use Rattle.encoder.proofs.write_four.Given as goal

abbrev pub invariant-loop-j : goal.invariant-loop-j
invariant-loop-j l = DownTo l.p l.input l.out (l.i + l.j) (l.start + l.j * l.one)
