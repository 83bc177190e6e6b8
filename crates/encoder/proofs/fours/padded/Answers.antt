-- The data are added to zeros.
use Rattle.std.proofs.Common.{ap, ◌∙◌}
use Rattle.series.specs.Series.{Series, ◌⊞◌, ◌⊠◌, zero-⊞}
use Rattle.series.specs.Shift.{zpow}
use Rattle.series.specs.Array.{bytes}
use Rattle.kernel.specs.Copy.{zeros}
use Rattle.encoder.proofs.fours.padded.Goals as goal

pub returns : goal.returns
returns c =
    c.join.ensures ∙ ap (λ (f : Series). f ⊞ zpow c.args.k
    ⊠ bytes c.args.input.now) (zeros 255) ∙ zero-⊞ _
