-- A factor that is one needs no product.
use Rattle.std.proofs.Common.{ap, refl, rules, sym, ◌∙◌, ◌≡◌}
use Rattle.field.specs.Field.{F, val, val-one}
use Rattle.series.specs.Series.{Series, K, ◌⊞◌, ◌⊠◌, one-⊠}
use Rattle.series.specs.Array.{bytes}
use Rattle.kernel.proofs.word.add_multiple.Goals as goal

pub returns-then-eq : goal.returns-then-eq
returns-then-eq c =
    let given = c.args in
    let e : given.c ≡ record { 0 = 1 } = search rules in
    let from = bytes given.from.now in
    c.add.ensures
    ∙ ap (λ (f : Series). bytes given.to.now ⊞ f) (sym (ap (λ (t : F). K t ⊠ from) (ap val e ∙ val-one) ∙ one-⊠ from))

pub returns : goal.returns
returns c = c.add_scaled.ensures _ refl
