-- The copy, and one change after the other.
use Rattle.std.proofs.Common.{ap, arith, ◌∙◌}
use Rattle.field.specs.Field.{val}
use Rattle.series.specs.Series.{Series, ◌⊞◌}
use Rattle.series.specs.Array.{bytes}
use Rattle.binary.specs.Changes.{spike}
use Rattle.binary.proofs.write.Goals as goal

pub flip-requires : goal.flip-requires
flip-requires c h = omega (arith, c.requires.1 h)

pub flip-requires-2 : goal.flip-requires-2
flip-requires-2 c h = omega (arith, c.requires.2 h)

pub flip-requires-3 : goal.flip-requires-3
flip-requires-3 c h = omega (arith, c.requires.3 h)

pub returns : goal.returns
returns c =
    let at = c.args.at in
    c.flip-3.ensures
    ∙ ap (λ (f : Series). f ⊞ spike (val at.2)) (c.flip-2.ensures
    ∙ ap (λ (f : Series). f ⊞ spike (val at.1)) (c.flip.ensures
    ∙ ap (λ (f : Series). f ⊞ spike (val at.0)) (ap bytes c.copy.ensures)))
