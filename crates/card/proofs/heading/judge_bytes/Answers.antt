-- A profile, or the number of the first question that says no.
use Rattle.std.proofs.Common.{ap, sym, ◌∙◌}
use Rattle.card.specs.SectionDefinition.{refusal}
use Rattle.card.specs.SectionLaws.{takes-silent, takes_as}
use Rattle.card.specs.HeadingDefinition.{card_number, profile_step}
use Rattle.card.proofs.heading.judge_bytes.Goals as goal

pub returns-in-Ok : goal.returns-in-Ok
returns-in-Ok c =
    takes_as (ap profile_step (sym c.in-Ok.is ∙ c.parse.ensures))
    (takes-silent _ _)

pub returns-in-Err : goal.returns-in-Err
returns-in-Err c =
    takes_as (ap (λ r. refusal (card_number r)) c.into.ensures
    ∙ ap profile_step (sym c.in-Err.is
    ∙ c.parse.ensures)) c.refuse.ensures
