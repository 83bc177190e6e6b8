use Rattle.std.proofs.Common.{ap, arith, length, length-set, sym, ℕ, ◌∙◌}
use lib.ListN.{length-replicate}
use Rattle.field.specs.Field.{F, ◌⊙◌, of, of_zero}
use Rattle.series.specs.Series.{K, ◌⊠◌, K-⊠-at}
use Rattle.series.specs.Degree.{below-K-⊠, below_weaken, below-cut_eq}
use Rattle.series.specs.Array.{bytes, read_at, read-zeros, read_store, below-read}
use Rattle.divider.proofs.evaluation.times.Goals as goal

pub loop-j-init : goal.loop-j-init
loop-j-init c = (length-replicate {A = ℕ} 64 0, read-zeros of 0 of_zero 64 _)

pub loop-j-preserved : goal.loop-j-preserved
loop-j-preserved c =
    let now = c.loop-j in
    let given = c.args in (
      length-set now.out _ _ ∙ now.invariant.0,
      read_store of 0 now.out now.j _ (K (of given.c) ⊠ bytes given.list) (omega arith) now.invariant.1
          (c.multiply.ensures
          ∙ sym (K-⊠-at _ _ now.j ∙ ap (λ (s : F). of given.c ⊙ s) (read_at of 0 _ now.j))),
    )

pub returns : goal.returns
returns c =
    let end = c.loop-j in
    let given = c.args in
    let small = below-K-⊠ (length given.list) (of given.c) _ (below-read of 0 of_zero given.list) in
    end.invariant.1 ∙ below-cut_eq end.j _ (below_weaken (length given.list) end.j _ small (omega arith))
