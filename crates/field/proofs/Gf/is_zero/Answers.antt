-- Only the byte 0 is the value zero.
use Rattle.std.proofs.Common.{ap, eqb, rules, sym, ℕ}
use Rattle.field.specs.Definition.{is_zero, val}
use Rattle.field.specs.Byte.{byte_of}
use Rattle.field.proofs.Gf.is_zero.Goals as goal

pub returns : goal.returns
unfolding is_zero val
returns c = ap (λ (n : ℕ). eqb n 0) (sym (byte_of _ (search rules)))
