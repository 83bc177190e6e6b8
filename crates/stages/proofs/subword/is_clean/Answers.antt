-- After stage 0 no subword is called clean.
use Rattle.std.proofs.Common.{ne_eqb, ◌∙◌}
use Rattle.stages.specs.SubwordStage.{clean-first}
use Rattle.stages.proofs.subword.is_clean.Goals as goal

pub returns-then-r-eq0 : goal.returns-then-r-eq0
returns-then-r-eq0 c = c.is_zero.ensures ∙ clean-first _ _ c.if-r-eq0.true

pub returns-else-r-eq0 : goal.returns-else-r-eq0
returns-else-r-eq0 c = rw (ne_eqb c.args.r 0 c.if-r-eq0.false)
