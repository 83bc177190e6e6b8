-- A scalar that is zero or one needs no product.
use Rattle.std.proofs.Common.{ap, refl, rules, sym, ◌∙◌, ◌≡◌}
use Rattle.field.specs.Field.{F, val, val-zero, val-one}
use Rattle.series.specs.Series.{K, K-zero, ◌⊠◌, one-⊠, zero-⊠}
use Rattle.polynomial.specs.Polynomial.{poly}
use Rattle.polynomial.proofs.scale.Goals as goal

pub returns-then-eq : goal.returns-then-eq
returns-then-eq c =
    let e : c.args.a ≡ record { 0 = 0 } = search rules in
    c.zero.ensures ∙ sym (ap (λ (s : F). K s ⊠ poly c.args.f) (ap val e ∙ val-zero) ∙ rw K-zero (zero-⊠ _))

pub returns-then-eq-2 : goal.returns-then-eq-2
returns-then-eq-2 c =
    let e : c.args.a ≡ record { 0 = 1 } = search rules in
    sym (ap (λ (s : F). K s ⊠ poly c.args.f) (ap val e ∙ val-one) ∙ one-⊠ _)

pub returns : goal.returns
returns c = c.scale_by.ensures _ refl
