-- Once the word.
use Rattle.std.proofs.Common.{ap, refl, ◌∙◌}
use Rattle.series.specs.Series.{Series, ◌⊞◌, one-⊠}
use Rattle.series.specs.Array.{bytes}
use Rattle.kernel.proofs.word.add.Goals as goal

pub returns : goal.returns
returns c = c.add_scaled.ensures _ refl ∙ ap (λ (f : Series). bytes c.args.to.now ⊞ f) (one-⊠ _)
