-- A difference below zero goes on from 255.
use Rattle.std.proofs.Common.{rules}
use Rattle.settle.specs.PositionsExponent.{back-less, back_more}
use Rattle.settle.proofs.positions.back.Goals as goal

pub returns-then-e-s : goal.returns-then-e-s
returns-then-e-s c =
    let given = c.args in
    back-less given.e.0 given.s.0 c.if-e-s.true (search rules)

pub returns-else-e-s : goal.returns-else-e-s
returns-else-e-s c = back_more c.args.e.0 c.args.s.0 c.if-e-s.false (search rules) c.requires
