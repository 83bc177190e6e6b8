-- What the first i lines say is added up.
use Rattle.std.proofs.Common.{◌*◌, ◌≡◌, ◌≤◌}
use Rattle.staged_decoding.specs.Definition.{total, count_of}
use Rattle.stages.specs.Report.{says}
use Rattle.stages.proofs.report.summed.Given as goal

abbrev pub invariant-loop-i : goal.invariant-loop-i
invariant-loop-i l =
    (l.changed ≤ 255 * l.i) × (l.bits ≤ 2040 * l.i)
    × (l.changed ≡ total l.i (λ k. count_of (says l.lines k).verdict))
    × (l.bits ≡ total l.i (λ k. (says l.lines k).bits))
