-- The rows passed are zero.
use Rattle.std.proofs.Common.{ℕ, ◌<◌, ◌≡◌}
use Rattle.series.specs.Series.{O}
use Rattle.block.specs.Table.{table}
use Rattle.block.proofs.codeword.is_zero.Given as goal

abbrev pub invariant-loop-row : goal.invariant-loop-row
invariant-loop-row l = (k : ℕ) → k < l.row-index → table l.fn.rows k ≡ O
