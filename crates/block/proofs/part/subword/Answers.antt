-- It lies inside the block.
use Rattle.std.proofs.Common.{arith, ◌*◌}
use native.Mathlib.Nat.{add-sub_cancel_left}
use Rattle.block.specs.Parts.{inside, part}
use Rattle.block.proofs.part.subword.Goals as goal

pub overflow_mul-start : goal.overflow_mul-start
overflow_mul-start c = record { fits = omega (arith, inside _ _ c.args.i c.requires.0 c.requires.1) }

pub returns : goal.returns
returns c =
    let n = c.args.p.length in
    part c.args.p _ c.args.i _ c.requires.0 c.requires.1 (add-sub_cancel_left (c.args.i * n) n)
