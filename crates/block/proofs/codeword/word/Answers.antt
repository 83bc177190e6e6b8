-- A nested word, or none is asked for.
use Rattle.std.proofs.Common.{arith, rules}
use Rattle.block.proofs.codeword.word.Goals as goal

pub returns-then-l-p : goal.returns-then-l-p
returns-then-l-p c = (search rules, λ _. c.nested_word.ensures)

pub returns : goal.returns
returns c = (search rules, λ h. absurd (omega arith))
