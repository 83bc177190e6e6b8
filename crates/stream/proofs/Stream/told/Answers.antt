-- Nothing went through.
use Rattle.std.proofs.Common.{refl}
use Rattle.stream.specs.Trace.{trace-same}
use Rattle.stream.proofs.Stream.told.Goals as goal

pub returns-in-Err-clause-still : goal.returns-in-Err-clause-still
returns-in-Err-clause-still c = λ b o. trace-same _ _ b o refl refl
