-- Horner's rule: v is the value of what follows the symbols that are left.
use Rattle.std.proofs.Common.{length}
use Rattle.field.specs.Field.{F}
use Rattle.kernel.specs.Horner.{Horner, Front}
use Rattle.kernel.proofs.multiplier.value.Given as goal

abbrev pub invariant-loop-x : goal.invariant-loop-x
invariant-loop-x g l =
    let left = l.x-iterator.iter.rest.now in
    Front l.word left × ((c : F) → g.M.Multiplier.is_by l.m c → Horner l.word c (length left) l.v)
