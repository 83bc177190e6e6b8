-- w holds the bytes from at + i on.
use Rattle.std.proofs.Common.{◌+◌, ◌-◌, ◌≡◌}
use Rattle.series.specs.Shift.{drop, cut}
use Rattle.series.specs.Array.{bytes}
use Rattle.divider.specs.Packed.{Word, digits}
use Rattle.divider.proofs.packed.word.Given as goal

abbrev pub invariant-loop-i : goal.invariant-loop-i
invariant-loop-i l = Word l.w × (digits l.w ≡ cut (8 - l.i) (drop (l.at + l.i) (bytes l.list)))
