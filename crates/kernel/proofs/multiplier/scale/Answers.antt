use Rattle.std.proofs.Common.{ap, arith, sym, ◌∙◌}
use Rattle.field.specs.Field.{F, ◌⊙◌, of}
use Rattle.series.specs.Array.{read_at}
use Rattle.kernel.specs.Store.{multiple-none, scaled-more, scaled-all}
use Rattle.kernel.proofs.multiplier.scale.Goals as goal

pub loop-x-init : goal.loop-x-init
loop-x-init g c _ _ = multiple-none _ _ _

pub loop-x-preserved : goal.loop-x-preserved
loop-x-preserved g c a by =
    let now = c.loop-x in
    let read = sym (read_at of 0 now.x-items now.x-index) in
    scaled-more now.x-items now.x-index _ a _ (omega arith) (now.invariant a by)
    (c.times.ensures a by ∙ ap (λ (s : F). a ⊙ s) read)

pub returns : goal.returns
returns g c a by = c.loop-x.invariant a by ∙ scaled-all c.loop-x.x-index _ _ (omega arith)
