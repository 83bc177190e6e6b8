-- The rows of the first i subwords are extended.
use Rattle.std.proofs.Common.{length, ◌≡◌}
use Rattle.series.specs.Array.{bytes}
use Rattle.block.specs.Table.{table as Table}
use Rattle.extend.specs.Definition.{extended}
use Rattle.extend.specs.Rows.{partly}
use Rattle.extend.proofs.extend.Given as goal

abbrev pub invariant-loop-i : goal.invariant-loop-i
invariant-loop-i l =
    (length l.out ≡ 8)
    × (Table l.out ≡ partly l.i (λ a. extended l.p l.from l.to l.pending (bytes l.block) a (Table l.table a)) (Table
    l.table))
