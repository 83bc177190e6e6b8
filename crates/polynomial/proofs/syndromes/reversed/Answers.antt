use Rattle.std.proofs.Common.{arith, length-set, rules, sym, ℕ, ◌∙◌}
use lib.ListN.{length-replicate}
use Rattle.field.specs.Field.{of, val_of}
use Rattle.series.specs.Array.{read_store}
use Rattle.polynomial.specs.Polynomial.{row_at, below_row}
use Rattle.polynomial.specs.SyndromesReversed.{reversed-at, reversed-none, reversed-all}
use Rattle.polynomial.proofs.syndromes.reversed.Goals as goal

pub loop-i-init : goal.loop-i-init
loop-i-init c = (search rules, search rules, length-replicate {A = ℕ} 144 0, reversed-none _ (below_row _))

pub loop-i-preserved : goal.loop-i-preserved
loop-i-preserved c =
    let now = c.loop-i in (
      omega arith,
      omega arith,
      length-set now.down now.i _ ∙ now.invariant.2,
      read_store of 0 now.down now.i _ _ (omega (arith, now.invariant.2)) now.invariant.3
          (sym (reversed-at 95 _ now.i (omega arith) ∙ row_at _ _ (omega arith) ∙ val_of _)),
    )

pub returns : goal.returns
returns c = reversed-all _ _ _ (omega arith) c.loop-i.invariant.3
