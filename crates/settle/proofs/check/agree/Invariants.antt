-- The first i entries are the same.
use Rattle.std.proofs.Common.{ℕ, ◌<◌, ◌≡◌}
use Rattle.series.specs.Array.{bytes}
use Rattle.polynomial.specs.Polynomial.{row as Row}
use Rattle.settle.proofs.check.agree.Given as goal

abbrev pub invariant-loop-i : goal.invariant-loop-i
invariant-loop-i l = (j : ℕ) → j < l.i → bytes l.l j ≡ Row l.row j
