-- The flags are counted.
use Rattle.std.proofs.Common.{List, Bool, ap, ◌∙◌}
use Rattle.staged_decoding.specs.Definition.{count}
use Rattle.extend.specs.LagrangeDefinition.{flag}
use Rattle.stages.proofs.unsettled.Goals as goal

pub returns : goal.returns
returns c = c.unsettled.ensures ∙ ap (λ (o : List Bool). count c.args.p.subwords (flag o)) c.pending.ensures
