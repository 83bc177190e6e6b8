-- Entries `from` to j − 1 stand in the row.
use Rattle.std.proofs.Common.{length, ◌+◌, ◌-◌, ◌≡◌, ◌≤◌}
use Rattle.polynomial.specs.Polynomial.{row}
use Rattle.staged_decoding.specs.Definition.{window}
use Rattle.extend.proofs.splice.Given as goal

abbrev pub invariant-loop-j : goal.invariant-loop-j
invariant-loop-j l = (l.j ≤ l.to + (l.from - l.to)) × (length l.out ≡ 48)
    × (row l.out ≡ window l.from l.j (row l.s) (row l.initial.out))
