-- Powers by products.
use Rattle.std.proofs.Common.{refl, sym, ◌∙◌}
use Rattle.field.specs.Field.{◌⊕◌, ◌⊙◌, val, pow-suc, pow-add}
use Rattle.binary.specs.Coefficients.{pow_2}
use Rattle.binary.proofs.direct.prepare.Goals as goal

pub returns : goal.returns
returns c =
    let given = c.args in
    let x = val given.s.s0 in
    let y = val given.s.s2 in
    let square = c.product-square.ensures ∙ sym (pow_2 x) in
    let cube = c.product-cube.ensures ∙ (λ i. x ⊙ square i) ∙ sym (pow-suc x 2) in
    let sixth = c.product-sixth.ensures ∙ (λ i. cube i ⊙ cube i) ∙ sym (pow-add x 3 3) in
    let square2 = c.product-square2.ensures ∙ sym (pow_2 y) in
    let both = c.product-both.ensures in
    let q = c.sum.ensures ∙ (λ i. both i ⊕ sixth i) in
    let part = c.plus_product-part.ensures ∙ (λ i. q i ⊕ y ⊙ cube i) in
    record {
      s0 = refl;
      s2 = refl;
      s4 = refl;
      square = square;
      cube = cube;
      sixth = sixth;
      square2 = square2;
      d1 = c.sum-2.ensures ∙ (λ i. y ⊕ cube i);
      both = both;
      phi = c.sum-3.ensures ∙ (λ i. part i ⊕ square2 i);
    }
