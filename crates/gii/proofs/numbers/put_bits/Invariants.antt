-- The changed bits of the first i lines stand.
use Rattle.std.proofs.Common.{take, ◌*◌, ◌++◌, ◌+◌, ◌≡◌}
use Rattle.stages.specs.Report.{says}
use Rattle.gii.specs.NumbersDefinition.{bits_numbers}
use Rattle.gii.proofs.numbers.put_bits.Given as goal

abbrev pub invariant-loop-i : goal.invariant-loop-i
invariant-loop-i l = take (29 + 2 * l.i) l.list ≡ take 29 l.initial.list ++ bits_numbers l.i (says l.lines)
