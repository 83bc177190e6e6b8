-- None, as many as a profile may have, or refused.
use Rattle.std.proofs.Common.{ap, eq-eqb, ne_eqb, sym, ◌∙◌}
use Rattle.card.specs.declared.section.Section.TheVariants.{Count}
use Rattle.card.specs.SectionDefinition.{silent, refusal}
use Rattle.card.specs.SectionLaws.{takes-silent, takes_as}
use Rattle.card.specs.HeadingDefinition.{card_number}
use Rattle.card.proofs.heading.judge_size.Goals as goal

pub returns-then-n-eq0 : goal.returns-then-n-eq0
returns-then-n-eq0 c =
    rw (eq-eqb c.args.n 0 c.if-n-eq0.true)
    (takes_as (ap (λ p. silent (Count p)) c.factory.ensures) (takes-silent _ _))

pub returns-then-not-size : goal.returns-then-not-size
returns-then-not-size c =
    let n = c.args.n in
    rw (sym c.size.ensures ∙ c.if-not-size.true, ne_eqb n 0 c.if-n-eq0.false)
    (takes_as (ap (λ r. refusal (card_number r)) c.into.ensures) c.refuse.ensures)

pub returns : goal.returns
returns c =
    let n = c.args.n in
    rw (sym c.size.ensures ∙ c.if-not-size.false, ne_eqb n 0 c.if-n-eq0.false) (takes-silent _ _)
