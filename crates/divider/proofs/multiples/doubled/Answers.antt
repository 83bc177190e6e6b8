use Rattle.std.proofs.Common.{ap, arith, length, length-set, sym, ℕ, ◌∙◌}
use lib.ListN.{length-replicate}
use Rattle.field.specs.Field.{F, α, ◌⊙◌, of, of_zero}
use Rattle.series.specs.Series.{K, ◌⊠◌, K-⊠-at}
use Rattle.series.specs.Degree.{below-K-⊠, below_weaken, below-cut_eq}
use Rattle.series.specs.Array.{bytes, read_at, read-zeros, read_store, below-read}
use Rattle.divider.proofs.multiples.doubled.Goals as goal

pub loop-i-init : goal.loop-i-init
loop-i-init c = (length-replicate {A = ℕ} 48 0, read-zeros of 0 of_zero 48 _)

pub loop-i-preserved : goal.loop-i-preserved
loop-i-preserved c =
    let now = c.loop-i in (
      length-set now.out _ _ ∙ now.invariant.0,
      read_store of 0 now.out now.i _ (K α ⊠ bytes c.args.list)
          (omega arith) now.invariant.1
          (c.twice.ensures ∙ sym (K-⊠-at α _ now.i ∙ ap (λ (s : F). α ⊙ s) (read_at of 0 _ now.i))),
    )

pub returns : goal.returns
returns c =
    let end = c.loop-i in
    let list = c.args.list in
    let small = below-K-⊠ (length list) α _ (below-read of 0 of_zero list) in
    end.invariant.1 ∙ below-cut_eq end.i _ (below_weaken (length list) end.i _ small (omega arith))
