use Rattle.std.proofs.Common.{arith, sym, ◌∙◌}
use Rattle.series.specs.Array.{bytes}
use Rattle.stages.specs.Walk.{before-first, at_first, follows_yes, at_next, reached, reached-stopped}
use Rattle.stages.proofs.run.Goals as goal

pub stage-requires : goal.stage-requires
stage-requires c = (c.requires.0, omega arith)

pub loop-table-init : goal.loop-table-init
loop-table-init c = (omega arith, λ f y h. h)

pub follows-requires : goal.follows-requires
follows-requires c = (c.requires.0.valid, c.loop-table.invariant.0)

pub round-further-requires : goal.round-further-requires
round-further-requires c =
    let now = c.loop-table in
    let (some_left, few-left) = follows_yes c.args.p now.states now.r _ c.follows.ensures c.loop-table-test.true in (
      record { valid = c.requires.0.valid; size = omega (arith, c.requires.0.size) },
      c.requires.1,
      omega (arith, some_left, few-left),
    )

pub stage-requires-in-loop-table : goal.stage-requires-in-loop-table
stage-requires-in-loop-table c =
    let now = c.loop-table in
    let (some_left, few-left) = follows_yes c.args.p now.states now.r _ c.follows.ensures c.loop-table-test.true in (
      record { valid = c.requires.0.valid; size = omega (arith, c.requires.0.size) },
      omega (arith, some_left, few-left),
    )

pub loop-table-smaller : goal.loop-table-smaller
loop-table-smaller c =
    let now = c.loop-table in
    let (some_left, few-left) = follows_yes c.args.p now.states now.r _ c.follows.ensures c.loop-table-test.true in
    omega (arith, some_left, few-left)

pub loop-table-preserved : goal.loop-table-preserved
loop-table-preserved c =
    let now = c.loop-table in
    let (some_left, few-left) = follows_yes c.args.p now.states now.r _ c.follows.ensures c.loop-table-test.true in (
      omega (arith, some_left, few-left),
      λ f y h. at_next c.args.p c.requires.0.valid f y now.r now.block now.states now.table (now.invariant.1 f y h)
          c.round-further.result c.round-further.ensures some_left few-left _ c.stage-in-loop-table.new.states
          (c.stage-in-loop-table.ensures f),
    )

pub unsettled-requires : goal.unsettled-requires
unsettled-requires c = c.requires.0.valid.subwords.1

pub returns-then-unsettled-eq0 : goal.returns-then-unsettled-eq0
returns-then-unsettled-eq0 c =
    let now = c.loop-table in
    let p = c.args.p in
    let f = c.args.form in
    let y = c.args.block.now in
    let s = c.start in
    let first = at_first p f y s.result c.args.syndromes s.ensures c.requires.2 _ c.stage.new.states
    (c.stage.ensures f (before-first p f y s.result c.args.syndromes s.ensures c.requires.2)) in
    reached p c.requires.0.valid f (bytes y) now.r now.block now.states now.table (now.invariant.1 f (bytes y) first)
    c.lines.result c.lines.ensures (sym c.follows.ensures ∙ c.loop-table-test.false)
    (sym c.unsettled.ensures ∙ c.if-unsettled-eq0.true)

pub returns : goal.returns
returns c =
    let now = c.loop-table in
    let p = c.args.p in
    let f = c.args.form in
    let y = c.args.block.now in
    let s = c.start in
    let first = at_first p f y s.result c.args.syndromes s.ensures c.requires.2 _ c.stage.new.states
    (c.stage.ensures f (before-first p f y s.result c.args.syndromes s.ensures c.requires.2)) in
    reached-stopped p c.requires.0.valid f (bytes y) now.r now.block now.states now.table
    (now.invariant.1 f (bytes y) first) c.lines.result c.lines.ensures
    (sym c.follows.ensures ∙ c.loop-table-test.false) (λ z. c.if-unsettled-eq0.false (c.unsettled.ensures ∙ z))
