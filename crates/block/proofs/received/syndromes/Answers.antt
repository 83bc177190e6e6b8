use Rattle.std.proofs.Common.{ap, arith, rules, ◌*◌, ◌+◌, ◌/◌, ◌∙◌, ◌≡◌}
use Rattle.series.specs.Array.{bytes}
use Rattle.code.specs.Check.{rows}
use Rattle.block.specs.Table.{rows_none}
use Rattle.block.specs.ReceivedRows.{row_of}
use Rattle.block.proofs.received.syndromes.Goals as goal

pub loop-q-init : goal.loop-q-init
loop-q-init c = (search rules, rows_none _)

pub four-requires : goal.four-requires
four-requires c = (c.requires.0, c.requires.1, omega arith)

pub loop-q-preserved : goal.loop-q-preserved
loop-q-preserved c =
    let e : 4 * c.loop-q.q + 4 ≡ 4 * (c.loop-q.q + 1) = omega arith in
    rw e at (c.four.ensures c.loop-q.invariant)

pub loop-i-init : goal.loop-i-init
loop-i-init c =
    let e : 4 * c.loop-q.q ≡ c.args.p.subwords / 4 * 4 = omega arith in
    rw e at c.loop-q.invariant

pub one-requires : goal.one-requires
one-requires c = (c.requires.0, c.requires.1, c.loop-i-test.true)

pub loop-i-preserved : goal.loop-i-preserved
loop-i-preserved c = c.one.ensures c.loop-i.invariant

pub returns : goal.returns
returns c =
    let end = c.loop-i in
    let e : end.i ≡ c.args.p.subwords = omega arith in
    end.invariant.1 ∙ ap (λ i. rows i (row_of c.args.p (bytes c.args.block.now))) e
