-- Six times eight symbols.
use Rattle.std.proofs.Common.{arith, length, ◌∙◌}
use Rattle.field.specs.Field.{of, of_zero}
use Rattle.series.specs.Degree.{below_weaken, below-cut_eq}
use Rattle.series.specs.Array.{bytes, below-read}
use Rattle.divider.specs.Packed.{six_pack}
use Rattle.divider.proofs.packed.pack.Goals as goal

pub returns : goal.returns
returns c =
    let list = c.args.list in
    six_pack (bytes list) _ _ _ _ _ _ c.word.ensures c.word-2.ensures
    c.word-3.ensures c.word-4.ensures
    c.word-5.ensures c.word-6.ensures
    ∙ below-cut_eq 48 (bytes list)
    (below_weaken (length list) 48 _ (below-read of 0 of_zero list) (omega (arith, c.well_formed)))
