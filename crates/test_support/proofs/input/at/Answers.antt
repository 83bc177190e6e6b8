-- Past the end a word reads as zero.
use Rattle.std.proofs.Common.{arith, get_or, ap, sym, ◌∙◌, ◌≡◌}
use Rattle.std.proofs.lemmas.Grind.{common_steps}
use Rattle.field.specs.Field.{of}
use Rattle.series.specs.Array.{read_at}
use Rattle.test_support.proofs.input.at.Goals as goal

pub returns : goal.returns
returns c =
    let read : c.unwrap_or.result ≡ get_or c.args.word.now c.args.i 0 = grind (arith, common_steps) in
    ap of read ∙ sym (read_at of 0 _ _)
