use Rattle.std.proofs.Common.{ap, arith, length, length-set, refl, sym, ◌+◌, ◌∙◌}
use Rattle.field.specs.Field.{F, ◌⊕◌, of, of_zero}
use Rattle.series.specs.Series.{Series, ◌⊞◌, ◌⊠◌}
use Rattle.series.specs.Shift.{zpow}
use Rattle.series.specs.Degree.{below-cut_eq, below_weaken}
use Rattle.series.specs.Array.{bytes, read_at, below-read}
use Rattle.kernel.specs.Store.{append-none, add-more, bytes-xor}
use Rattle.encoder.proofs.fours.join.Goals as goal

pub loop-q-init : goal.loop-q-init
loop-q-init c = (refl, append-none _ _ _)

pub loop-q-preserved : goal.loop-q-preserved
loop-q-preserved c =
    let now = c.loop-q in (
      length-set now.word _ _ ∙ now.invariant.0,
      add-more now.word c.args.at now.q _ (bytes c.args.word.now)
          (bytes c.args.from.now) (omega (arith, now.invariant.0, c.requires))
          now.invariant.1 (bytes-xor now.word _ _
          ∙ ap (λ (s : F). bytes now.word (c.args.at + now.q) ⊕ s) (sym (read_at of 0 _ _))),
    )

pub shape_of-word : goal.shape_of-word
shape_of-word c = c.loop-q.invariant.0

pub returns : goal.returns
returns c =
    let end = c.loop-q in
    let whole = below-cut_eq end.q _
    (below_weaken (length c.args.from.now) end.q _ (below-read of 0 of_zero _) (omega arith)) in
    end.invariant.1 ∙ ap (λ (f : Series). bytes c.args.word.now ⊞ zpow c.args.at ⊠ f) whole
