-- The table of multiples of the generator.
use Rattle.std.proofs.Common.{ap, rules, ◌∙◌}
use Rattle.series.specs.Series.{Series}
use Rattle.divider.specs.GeneratorCoefficients.{aligned-low}
use Rattle.divider.proofs.generator.table.Goals as goal

pub multiples-requires : goal.multiples-requires
multiples-requires c = (
  search rules,
  λ i h. ap (λ (f : Series). f i) c.generator-g.ensures
      ∙ aligned-low c.args.first c.args.k i h,
)

pub returns : goal.returns
returns c =
    let made = c.multiples.ensures in
    record { multiples = made.0; generator = made.1 ∙ c.generator-g.ensures }
