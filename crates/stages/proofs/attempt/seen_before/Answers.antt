-- Stage 0 is the first; before each other stage stands one.
use Rattle.std.proofs.Common.{sym, ◌∙◌}
use Rattle.stages.specs.AttemptReady.{seen_before-first, seen_before-next}
use Rattle.stages.proofs.attempt.seen_before.Goals as goal

pub returns-then-r-eq0 : goal.returns-then-r-eq0
returns-then-r-eq0 c = sym (seen_before-first c.args.p _ c.if-r-eq0.true)

pub returns-else-r-eq0 : goal.returns-else-r-eq0
returns-else-r-eq0 c = c.seen.ensures ∙ sym (seen_before-next c.args.p _ c.if-r-eq0.false)
