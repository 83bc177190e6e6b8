-- `bits` gathers those of the symbols passed.
use Rattle.std.proofs.Common.{map}
use Rattle.kernel.specs.Symbol.{Bits}
use Rattle.kernel.proofs.symbol.is_zero.Given as goal

abbrev pub invariant-loop-s : goal.invariant-loop-s
invariant-loop-s g l = Bits (map g.S.Symbol.value l.list) l.s-index l.bits
