use Rattle.std.proofs.Common.{arith, suc, ◌≡◌}
use Rattle.listing.specs.Laws.{appended_then}
use Rattle.test_support.specs.State.{top, coefficient_text, polynomial_text}
use Rattle.test_support.specs.Laws.{each_none, each_more, top_least}
use Rattle.test_support.proofs.state.polynomial.Goals as goal

pub overflow_add-n : goal.overflow_add-n
overflow_add-n g c = omega (arith, c.degree-n.ensures, top_least c.args.f 48)

pub loop-i-init : goal.loop-i-init
loop-i-init g c =
    let f = c.args.f in
    (omega (arith, c.degree-n.ensures, top_least f 48), each_none _ (coefficient_text f) _)

pub bounds-f-i : goal.bounds-f-i
bounds-f-i g c = omega (arith, c.loop-i.invariant.0)

pub loop-i-preserved : goal.loop-i-preserved
loop-i-preserved g c =
    let now = c.loop-i in
    (now.invariant.0, each_more (coefficient_text c.args.f) now.i now.invariant.1 c.value.ensures)

pub returns : goal.returns
unfolding polynomial_text
returns g c =
    let end = c.loop-i in
    let f = c.args.f in
    let all : end.i ≡ suc (top f 48) = omega (arith, c.degree-n.ensures) in
    appended_then c.put.ensures (rw all at end.invariant.1)
