use Rattle.std.proofs.Common.{arith, length-set, rules, ◌∙◌}
use Rattle.extend.specs.Rows.{partly_none, partly_more, extend-is}
use Rattle.extend.proofs.extend.Goals as goal

pub loop-i-init : goal.loop-i-init
loop-i-init c = (search rules, partly_none _ _)

pub offset_bounds-table-i : goal.offset_bounds-table-i
offset_bounds-table-i c = record { fits = omega (arith, c.requires.0.valid.subwords, c.loop-i-test.true) }

pub bounds-table-i : goal.bounds-table-i
bounds-table-i c = omega (arith, c.requires.0.valid.subwords, c.loop-i-test.true)

pub extend_row-requires : goal.extend_row-requires
extend_row-requires c = (c.requires.0, c.requires.1, c.requires.2, c.requires.3, c.requires.4, c.loop-i-test.true)

pub offset_bounds-out-i : goal.offset_bounds-out-i
offset_bounds-out-i c = record { fits = omega (arith, c.requires.0.valid.subwords, c.loop-i-test.true) }

pub bounds-out-i : goal.bounds-out-i
bounds-out-i c = omega (arith, c.requires.0.valid.subwords, c.loop-i-test.true)

pub loop-i-preserved : goal.loop-i-preserved
loop-i-preserved c =
    let now = c.loop-i in
    let taken = c.loop-i-test.true in (
      length-set now.out _ _ ∙ now.invariant.0,
      partly_more now.out now.i _ _ _ (omega (arith, now.invariant.0, c.requires.0.valid.subwords, taken))
          now.invariant.1 c.extend_row.ensures,
    )

pub returns : goal.returns
returns c g seen =
    let end = c.loop-i in
    let x = c.args in
    end.invariant.1
    ∙ extend-is x.p c.requires.0.valid x.from x.to x.pending x.block.now x.table g seen end.i
    (omega arith)
