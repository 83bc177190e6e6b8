-- The size of the part.
use Rattle.std.proofs.Common.{ap, length, ◌∙◌}
use Rattle.gii.specs.Laws.{size-empty}
use Rattle.gii.proofs.gii_fetch_size.Goals as goal

pub returns : goal.returns
returns c = record {
  value = ap length c.part.ensures.result_value;
  refused = size-empty c.part.result.now ∙ c.part.ensures.empty;
}
