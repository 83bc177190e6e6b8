-- The rows of j subwords more stand.
use Rattle.std.proofs.Common.{◌+◌}
use Rattle.series.specs.Array.{bytes}
use Rattle.block.specs.ReceivedRows.{FirstRows}
use Rattle.block.proofs.received.four.Given as goal

abbrev pub invariant-loop-j : goal.invariant-loop-j
invariant-loop-j l =
    FirstRows l.fn.p (bytes l.block) l.i l.initial.rows → FirstRows l.fn.p (bytes l.block) (l.i + l.j) l.rows
