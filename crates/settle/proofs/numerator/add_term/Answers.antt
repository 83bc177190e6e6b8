use Rattle.std.proofs.Common.{ap, ap₂, arith, sym, ◌+◌, ◌∙◌, ◌≡◌}
use Rattle.field.specs.Field.{F, ◌⊕◌, ◌⊙◌, val_of}
use Rattle.series.specs.Series.{K-⊠-at}
use Rattle.series.specs.Array.{bytes}
use Rattle.polynomial.specs.Polynomial.{row_at}
use Rattle.kernel.specs.Store.{bytes-xor, append-none, add-more}
use Rattle.settle.proofs.numerator.add_term.Goals as goal

pub loop-j-init : goal.loop-j-init
loop-j-init c = append-none _ _ _

pub loop-j-preserved : goal.loop-j-preserved
loop-j-preserved c =
    let now = c.loop-j in
    let given = c.args in
    let product = c.multiply.ensures
    ∙ ap₂ ◌⊙◌ (sym (val_of given.c)) (sym (row_at given.row now.j (omega arith) ∙ val_of _)) in
    add-more now.to given.a now.j _ _ _ (omega arith) now.invariant
    (bytes-xor now.to _ _
    ∙ ap (λ (s : F). bytes now.to (given.a + now.j) ⊕ s) (product ∙ sym (K-⊠-at _ _ now.j)))

pub returns : goal.returns
returns c =
    let end = c.loop-j in
    let e : end.j ≡ 32 = omega arith in
    rw e at end.invariant
