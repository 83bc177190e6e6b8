-- A read failed, or the input has ended, where no bytes came.
use Rattle.std.proofs.Common.{arith, refl}
use Rattle.stream.specs.Laws.{after-failed, after-ended}
use Rattle.stream.proofs.Stream.after.Goals as goal

pub returns-then-failed : goal.returns-then-failed
returns-then-failed c = after-failed _ _ _ refl refl refl refl refl (omega arith)

pub returns-else-failed : goal.returns-else-failed
returns-else-failed c = after-ended _ _ _ refl refl refl refl refl (omega arith)
