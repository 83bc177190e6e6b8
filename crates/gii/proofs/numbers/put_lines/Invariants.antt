-- The numbers of the first i lines stand.
use Rattle.std.proofs.Common.{take, ◌*◌, ◌++◌, ◌+◌, ◌≡◌}
use Rattle.stages.specs.Report.{says}
use Rattle.gii.specs.NumbersDefinition.{lines_numbers}
use Rattle.gii.proofs.numbers.put_lines.Given as goal

abbrev pub invariant-loop-i : goal.invariant-loop-i
invariant-loop-i l = take (3 + 3 * l.i) l.list ≡ take 3 l.initial.list ++ lines_numbers l.i (says l.lines)
