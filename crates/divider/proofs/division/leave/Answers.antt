use Rattle.std.proofs.Common.{arith, ◌∙◌}
use lib.ListN.{length-replicate}
use Rattle.std.proofs.lemmas.List.{get_or-replicate}
use Rattle.divider.specs.Packed.{none}
use Rattle.divider.specs.DivisionLeaves.{leaving-none, leaving-more, leaving-all}
use Rattle.divider.specs.Each.{passed-none, passed-more, passed-all}
use Rattle.divider.proofs.division.leave.Goals as goal

pub loop-p-init : goal.loop-p-init
loop-p-init g c = (
  length-replicate _ _,
  λ i w r h. rw (get_or-replicate g.row.N i _ r (omega (arith, c.requires.2)))
      (leaving-none (c.requires.3 i w h) c.requires.1),
)

pub loop-i-init : goal.loop-i-init
loop-i-init g c = passed-none

pub loop-i-preserved : goal.loop-i-preserved
loop-i-preserved g c =
    let pass = c.loop-p in
    let now = c.loop-i in
    let before = now.invariant.other now.i none (omega arith) in
    passed-more now.invariant (omega (arith, now.invariant.long, pass.invariant.0)) (omega (arith, c.requires.2)) _
    (leaving-more (pass.invariant.1 now.i _ none (omega (arith, c.requires.2))) (omega arith)
    (rw before at c.step.ensures))

pub loop-p-preserved : goal.loop-p-preserved
loop-p-preserved g c =
    let now = c.loop-i in
    (now.invariant.long ∙ c.loop-p.invariant.0, passed-all now.invariant (omega (arith, c.requires.2)))

pub returns : goal.returns
returns g c i w r h = leaving-all (c.loop-p.invariant.1 i w r h) (omega arith)
