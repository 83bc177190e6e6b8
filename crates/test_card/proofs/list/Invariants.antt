-- Every step brings the end nearer.
use Rattle.card.specs.SectionDefinition.{left}
use Rattle.test_card.proofs.list.Given as goal

abbrev pub decreases-loop-rest : goal.decreases-loop-rest
decreases-loop-rest l = left l.s
