-- What the symbols from k on leave, against the first k.
use Rattle.std.proofs.Common.{arith, rules}
use Rattle.divider.specs.Packed.{none}
use Rattle.divider.specs.Each.{passed-none, passed-more}
use Rattle.divider.specs.ReedSolomonResidue.{residual-table}
use Rattle.divider.proofs.reed_solomon.residues.Goals as goal

pub remainders-left-requires : goal.remainders-left-requires
remainders-left-requires c = (c.requires.0.multiples, c.requires.2, c.requires.3)

pub loop-i-init : goal.loop-i-init
loop-i-init c = passed-none

pub loop-i-preserved : goal.loop-i-preserved
loop-i-preserved c =
    let now = c.loop-i in
    let left = c.remainders-left.ensures now.i _ none (omega arith) in
    passed-more now.invariant (omega arith) (omega arith) _
    (residual-table c.args.first c.args.k c.args.t.now c.requires.1 c.requires.0 _ _ _
    (omega (arith, c.requires.2)) (search rules) left c.difference.ensures)
