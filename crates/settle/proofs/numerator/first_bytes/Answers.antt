-- The first m bytes are copied into zeros.
use Rattle.std.proofs.Common.{ap, length, length-take-le, ◌∙◌}
use Rattle.field.specs.Field.{of, of_zero}
use Rattle.series.specs.Array.{bytes}
use Rattle.series.specs.Part.{read_prefix}
use Rattle.kernel.specs.Copy.{front-zeros}
use Rattle.settle.proofs.numerator.first_bytes.Goals as goal

pub returns : goal.returns
returns c =
    let m = c.args.m in
    front-zeros m 25 _ _ (ap length c.copy_from_slice.ensures.after ∙ length-take-le m _ c.requires.1)
    (ap bytes c.copy_from_slice.ensures.after ∙ read_prefix of 0 of_zero m _ c.requires.1)
