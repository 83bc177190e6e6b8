-- Both are the product of c and x, and a value has one byte.
use Rattle.std.proofs.Common.{ap, rules, sym, ◌<◌, ◌∙◌}
use Rattle.field.specs.Field.{F, ◌⊙◌, val, val_inj, val_of}
use Rattle.kernel.proofs.halves.both.Goals as goal

pub returns : goal.returns
returns c =
    let given = c.args in
    let x = ap (λ (s : F). val given.c ⊙ s) (sym (val_of given.x)) in
    let product = val_of _ ∙ c.times.ensures.product (val given.c) c.split-h.ensures ∙ x in
    let small : c.times.result < 256 = search rules in
    record {
      same = val_inj _ c.product.result small (search rules) (product ∙ sym c.product.ensures);
      product = product;
    }
