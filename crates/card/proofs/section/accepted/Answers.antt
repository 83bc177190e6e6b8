-- The questions pass where the answer is a profile.
use Rattle.std.proofs.Common.{refl, Ok, Err, is_ok, ◌≡◌, ◌∙◌}
use Rattle.profile.specs.Definition.{Parsed}
use Rattle.card.specs.SectionDefinition.{passes}
use Rattle.card.specs.SectionLaws.{accepts-is}
use Rattle.card.proofs.section.accepted.Goals as goal

ok-passes : (a : Parsed) → is_ok a ≡ passes a
ok-passes (Ok p) = refl
ok-passes (Err q) = refl

pub returns : goal.returns
returns c = c.is_ok.ensures.value ∙ ok-passes _ ∙ accepts-is _ _ c.judge.ensures
