-- What is clear is zero, and from 49 on there is nothing.
use Rattle.std.proofs.Common.{arith, rules}
use Rattle.polynomial.specs.Polynomial.{below-poly, below_clear, poly-clear}
use Rattle.polynomial.proofs.extent.Goals as goal

pub returns-then-not-is_zero : goal.returns-then-not-is_zero
returns-then-not-is_zero c = (below-poly _, omega arith)

pub returns-then-not-is_zero-2 : goal.returns-then-not-is_zero-2
returns-then-not-is_zero-2 c =
    let high =
    poly-clear c.args.f 32 49 (search rules) (omega arith) (omega arith) (c.is_zero.ensures.0 c.if-not-is_zero.false) in
    (below_clear 32 49 _ (below-poly _) high, omega arith)

pub returns : goal.returns
returns c =
    let f = c.args.f in
    let high =
    poly-clear f 32 49 (search rules) (omega arith) (omega arith) (c.is_zero.ensures.0 c.if-not-is_zero.false) in
    let middle =
    poly-clear f 16 32 (search rules) (omega arith) (omega arith) (c.is_zero-2.ensures.0 c.if-not-is_zero-2.false) in
    (below_clear 16 32 _ (below_clear 32 49 _ (below-poly _) high) middle, omega arith)
