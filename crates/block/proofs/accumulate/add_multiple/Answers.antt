-- The subword as a part of the block, and the first n symbols of the word.
use Rattle.std.proofs.Common.{ap, arith, length-take-le, refl, sym, take, ◌∙◌}
use Rattle.field.specs.Field.{val}
use Rattle.series.specs.Series.{Series, K, ◌⊞◌, ◌⊠◌}
use Rattle.series.specs.Array.{bytes}
use Rattle.block.specs.Parts.{inside}
use Rattle.code.specs.Combined.{subword-part, add-part}
use Rattle.block.proofs.accumulate.add_multiple.Goals as goal

pub add_multiple-requires : goal.add_multiple-requires
add_multiple-requires c = c.subword.ensures.long ∙ sym (length-take-le c.args.p.length c.args.word.now c.requires.2)

pub returns : goal.returns
returns c =
    let n = c.args.p.length in
    let i = c.args.i in
    let b = c.args.block.now in
    let word = c.args.word.now in
    let room = (inside _ _ i c.requires.0 c.requires.1).0 in
    let same = c.subword.ensures.is ∙ sym (subword-part n b i room) in
    add-part n i n b word _ _ refl room c.requires.2
    (omega (arith, c.word-1.given, length-take-le n word c.requires.2))
    (c.add_multiple.ensures ∙ ap (λ (f : Series). bytes (take n word) ⊞ K (val c.args.c) ⊠ f) same)
