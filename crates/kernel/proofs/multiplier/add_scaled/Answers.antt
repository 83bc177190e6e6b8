use Rattle.std.proofs.Common.{ap, arith, sym, ◌∙◌}
use Rattle.field.specs.Field.{F, ◌⊕◌, ◌⊙◌, of}
use Rattle.series.specs.Array.{bytes, read_at}
use Rattle.kernel.specs.Store.{bytes-xor, multiple-none, multiple-more, multiple-all}
use Rattle.kernel.proofs.multiplier.add_scaled.Goals as goal

pub loop-j-init : goal.loop-j-init
loop-j-init g c _ _ = multiple-none _ _ _

pub loop-j-preserved : goal.loop-j-preserved
loop-j-preserved g c a by =
    let now = c.loop-j in
    let read = sym (read_at of 0 c.args.from.now now.j) in
    let product = c.times.ensures a by ∙ ap (λ (s : F). a ⊙ s) read in
    multiple-more now.to now.j _ a _ _ (omega arith) (now.invariant a by)
    (bytes-xor now.to now.j _ ∙ ap (λ (s : F). bytes now.to now.j ⊕ s) product)

pub returns : goal.returns
returns g c a by = c.loop-j.invariant a by ∙ multiple-all c.loop-j.j _ _ c.args.from.now (omega arith)
