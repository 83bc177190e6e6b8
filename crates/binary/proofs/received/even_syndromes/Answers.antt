-- The syndrome j is the value at α^(j + 1).
use Rattle.field.specs.Field.{α, pow, pow-one}
use Rattle.code.specs.Word.{root, syndrome}
use Rattle.binary.specs.Received.{cube, fifth}
use Rattle.binary.specs.ReceivedLaws.{power_table-of}
use Rattle.binary.proofs.received.even_syndromes.Goals as goal

pub returns : goal.returns
unfolding root syndrome
returns c =
    let bits = c.masks-bits.ensures in (
      c.value.ensures (pow α 1) _ (rw (pow-one, c.powers.ensures) power_table-of) bits,
      c.value-2.ensures cube _ c.cubes.ensures bits,
      c.value-3.ensures fifth _ c.fifths.ensures bits,
    )
