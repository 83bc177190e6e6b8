-- One of the three sums of two, then another, then the last.
use Rattle.std.proofs.Common.{ap, ap₂, ◌∙◌, ◌≡◌}
use Rattle.field.specs.Field.{F, ◌⊕◌, ◌⊙◌, val, inv}
use Rattle.binary.specs.LocationsLaws.{three-same}
use Rattle.binary.proofs.locations.three.Goals as goal

pub returns : goal.returns
returns c =
    let given = c.args in
    let s = val given.sum in
    let p = val given.pairs in
    let a = val given.all in
    let u = val c.one_of_three-u.result in
    let pairs : val c.sum-a.result ≡ s ⊙ s ⊕ p =
    c.sum-a.ensures ∙ ap (λ (t : F). t ⊕ p) c.product.ensures in
    let all : val c.sum-b.result ≡ s ⊙ p ⊕ a =
    c.sum-b.ensures ∙ ap (λ (t : F). t ⊕ a) c.product-2.ensures in
    let rest : val c.product-3.result ≡ (s ⊙ p ⊕ a) ⊙ inv u =
    c.product-3.ensures ∙ ap₂ ◌⊙◌ all c.inverse.ensures in
    rw (c.sum.ensures, c.sum-2.ensures, c.sum-4.ensures, c.sum-3.ensures)
    (three-same s p a u _ (rw rest at c.one_of_two-v.ensures)
    (rw (pairs, all) at c.one_of_three-u.ensures))
