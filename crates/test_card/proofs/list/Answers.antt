use Rattle.std.proofs.Common.{sym, ◌∙◌}
use Rattle.test_card.proofs.list.Goals as goal

pub loop-rest-smaller : goal.loop-rest-smaller
loop-rest-smaller c = c.step-s.ensures (sym c.is_over.ensures ∙ c.loop-rest-test.true)
