-- Clean is no change at stage 0.
use Rattle.std.proofs.Common.{arith}
use Rattle.stages.specs.SubwordStage.{clean_is, corrected-is}
use Rattle.stages.proofs.subword.verdict_of.Goals as goal
use Rattle.stages.proofs.subword.verdict_of.Goals.{else-r-eq0-via-then-r-eq0+else-count-eq0, else-r-eq0-via-else-r-eq0}

pub returns-then-count-eq0 : goal.returns-then-count-eq0
returns-then-count-eq0 c = clean_is c.args.r c.args.count (omega arith) (omega arith)

pub returns-else-r-eq0 : goal.returns-else-r-eq0
returns-else-r-eq0 c = corrected-is c.args.r c.args.count (elim c.else-r-eq0.branch [
  | else-r-eq0-via-then-r-eq0+else-count-eq0 w ↦ λ (e, z). w.if-count-eq0.false z
  | else-r-eq0-via-else-r-eq0 w ↦ λ (e, z). w.if-r-eq0.false e
])
