-- Still pending, or settled and corrected.
use Rattle.stages.specs.SubwordStage.{took-none, took-some}
use Rattle.stages.proofs.subword.take.Goals as goal

pub returns-in_default : goal.returns-in_default
returns-in_default c f S o = took-none _ f _ _ S _ _ o c.in_default.is

pub returns : goal.returns
returns c f S o =
    took-some _ f _ _ S _ _ o _ _ _ _ c.in-Some.is c.correct-bits.ensures.block c.verdict_of.ensures
    c.correct-bits.ensures.bits
