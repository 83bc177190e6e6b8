-- Six words added to zeros.
use Rattle.std.proofs.Common.{◌∙◌, ◌≡◌}
use Rattle.field.specs.Field.{of, of_zero}
use Rattle.series.specs.Series.{Series, O, ◌⊞◌, ◌⊠◌}
use Rattle.series.specs.Shift.{zpow, cut-none}
use Rattle.series.specs.Array.{read-zeros}
use Rattle.divider.specs.Packed.{digits, six_spread}
use Rattle.divider.proofs.packed.unpack.Goals as goal

more : {s t : Series} (u : Series) → s ≡ t → s ⊞ u ≡ t ⊞ u
more u e i = e i ⊞ u

pub returns : goal.returns
returns c =
    let r = c.args.r in
    c.add_word-6.ensures
    ∙ more (zpow 40 ⊠ digits r.5) (c.add_word-5.ensures
    ∙ more (zpow 32 ⊠ digits r.4) (c.add_word-4.ensures
    ∙ more (zpow 24 ⊠ digits r.3) (c.add_word-3.ensures
    ∙ more (zpow 16 ⊠ digits r.2) (c.add_word-2.ensures
    ∙ more (zpow 8 ⊠ digits r.1) (c.add_word.ensures
    ∙ more (zpow 0 ⊠ digits r.0) (read-zeros of 0 of_zero 48 O ∙ cut-none O))))))
    ∙ six_spread r.0 r.1 r.2 r.3 r.4 r.5
