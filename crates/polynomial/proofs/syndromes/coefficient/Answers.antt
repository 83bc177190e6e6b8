-- Within the table it is the entry, from 48 on zero.
use Rattle.std.proofs.Common.{sym, ◌∙◌}
use Rattle.field.specs.Field.{val-zero}
use Rattle.polynomial.specs.Polynomial.{row_at, below_row}
use Rattle.polynomial.proofs.syndromes.coefficient.Goals as goal

pub returns-then-i-lt-SYNDROMES : goal.returns-then-i-lt-SYNDROMES
returns-then-i-lt-SYNDROMES c = sym (row_at _ _ c.if-i-lt-SYNDROMES.true)

pub returns : goal.returns
returns c = val-zero ∙ sym (below_row c.args.s _ c.if-i-lt-SYNDROMES.false)
