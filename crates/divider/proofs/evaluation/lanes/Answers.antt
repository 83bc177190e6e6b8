-- The next block where i begins it.
use Rattle.std.proofs.Common.{arith, ◌%◌, ◌-◌, ◌≡◌}
use Rattle.divider.proofs.evaluation.lanes.Goals as goal

pub returns-then-i-eq0 : goal.returns-then-i-eq0
returns-then-i-eq0 c =
    let i = c.args.i in
    let e : i - i % 32 ≡ i = omega (arith, c.if-i-eq0.true) in
    rw e c.block.ensures

pub returns : goal.returns
returns c = c.requires.2 (omega (arith, c.if-i-eq0.false))
