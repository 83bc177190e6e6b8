-- Two parts of the word.
use Rattle.std.proofs.Common.{◌∙◌}
use Rattle.field.specs.Field.{val_of}
use Rattle.binary.specs.ReceivedLaws.{value_parts}
use Rattle.binary.proofs.received.value.Goals as goal

pub returns : goal.returns
returns c x w t m =
    let given = c.args in
    val_of _ ∙ value_parts w given.masks.now given.table.now x m t _ _ (c.part-low.ensures x w t m)
    (c.part-high.ensures x w t m)
