-- The multiple by one.
use Rattle.std.proofs.Common.{ap, ◌∙◌}
use Rattle.field.specs.Field.{F, val-one}
use Rattle.series.specs.Series.{Series, K, ◌⊞◌, ◌⊠◌, one-⊠}
use Rattle.series.specs.Shift.{cut}
use Rattle.series.specs.Array.{bytes}
use Rattle.code.specs.Definition.{subword}
use Rattle.block.proofs.accumulate.add_subword.Goals as goal

pub returns : goal.returns
returns c =
    let given = c.args in
    let n = given.p.length in
    let part = cut n (subword n (bytes given.block.now) given.i) in
    c.add_multiple.ensures
    ∙ ap (λ (f : Series). bytes given.word.now ⊞ f) (ap (λ (s : F). K s ⊠ part) val-one ∙ one-⊠ part)
