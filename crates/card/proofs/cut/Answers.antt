-- Nothing is missing, or refused.
use Rattle.std.proofs.Common.{sym, ◌∙◌}
use Rattle.card.specs.SectionLaws.{takes-silent}
use Rattle.card.proofs.cut.Goals as goal

pub returns-then-may_end : goal.returns-then-may_end
returns-then-may_end c = rw (sym c.may_end.ensures ∙ c.if-may_end.true) (takes-silent _ _)

pub returns : goal.returns
returns c = rw (sym c.may_end.ensures ∙ c.if-may_end.false) c.refuse.ensures
