-- The coefficients over the constant term.
use Rattle.std.proofs.Common.{ap, ◌∙◌, ◌≡◌}
use Rattle.field.specs.Field.{F, ◌⊙◌, val, val-zero}
use Rattle.series.specs.Array.{values, read}
use Rattle.binary.specs.Locations.{over}
use Rattle.binary.specs.LocationsLaws.{finds-one, finds-two, finds-three}
use Rattle.binary.proofs.locations.of_locator.Goals as goal

pub returns-then-length-eq1 : goal.returns-then-length-eq1
unfolding read
returns-then-length-eq1 c =
    let given = c.args in
    let Λ = values given.locator in
    let sum : val c.product-sum.result ≡ over Λ 1 =
    c.product-sum.ensures ∙ ap (λ (t : F). Λ 1 ⊙ t) c.inverse-inverse.ensures in
    rw (sum, val-zero) (finds-one Λ given.length c.if-length-eq1.true)

pub returns-then-length-eq2 : goal.returns-then-length-eq2
unfolding read
returns-then-length-eq2 c =
    let Λ = values c.args.locator in
    let sum : val c.product-sum.result ≡ over Λ 1 =
    c.product-sum.ensures ∙ ap (λ (t : F). Λ 1 ⊙ t) c.inverse-inverse.ensures in
    let pairs : val c.product-pairs.result ≡ over Λ 2 =
    c.product-pairs.ensures ∙ ap (λ (t : F). Λ 2 ⊙ t) c.inverse-inverse.ensures in
    finds-two Λ _ _ _ _ c.if-length-eq2.true (rw (sum, pairs) at c.two.ensures)

pub returns : goal.returns
unfolding read
returns c =
    let Λ = values c.args.locator in
    let sum : val c.product-sum.result ≡ over Λ 1 =
    c.product-sum.ensures ∙ ap (λ (t : F). Λ 1 ⊙ t) c.inverse-inverse.ensures in
    let pairs : val c.product-pairs.result ≡ over Λ 2 =
    c.product-pairs.ensures ∙ ap (λ (t : F). Λ 2 ⊙ t) c.inverse-inverse.ensures in
    let all : val c.product.result ≡ over Λ 3 =
    c.product.ensures ∙ ap (λ (t : F). Λ 3 ⊙ t) c.inverse-inverse.ensures in
    finds-three Λ _ _ _ _ c.if-length-eq1.false c.if-length-eq2.false (rw (sum, pairs, all) at c.three.ensures)
