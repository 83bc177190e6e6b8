use Rattle.std.proofs.Common.{ap, ap₂, arith, length-set, sym, ℕ, ◌+◌, ◌∙◌, ◌≡◌}
use lib.ListN.{length-replicate}
use Rattle.field.specs.Field.{F, ◌⊕◌, ◌⊙◌, of, of_zero, of_xor, ⊙_comm}
use Rattle.series.specs.Array.{read_at, read-zeros, read_store}
use Rattle.divider.proofs.evaluation.horner.Goals as goal

pub loop-j-init : goal.loop-j-init
loop-j-init c = (length-replicate {A = ℕ} 32 0, read-zeros of 0 of_zero 32 _)

pub loop-j-preserved : goal.loop-j-preserved
loop-j-preserved c =
    let now = c.loop-j in
    let given = c.args in
    let x = given.x.now in
    let product = c.multiply.ensures ∙ ⊙_comm _ _
    ∙ sym (ap₂ ◌⊙◌ (read_at of 0 given.v now.j) (read_at of 0 x (given.i + now.j))) in (
      length-set now.out _ _ ∙ now.invariant.0,
      read_store of 0 now.out now.j _ _ (omega arith) now.invariant.1
          (of_xor _ _ ∙ ap (λ (t : F). t ⊕ of given.s) product),
    )

pub returns : goal.returns
returns c =
    let end = c.loop-j in
    let e : end.j ≡ 32 = omega arith in
    rw e at end.invariant.1
