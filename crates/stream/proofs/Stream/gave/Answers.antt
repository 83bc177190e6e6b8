-- As many bytes more went through.
use Rattle.std.proofs.Common.{refl}
use Rattle.stream.specs.Trace.{trace_gave}
use Rattle.stream.proofs.Stream.gave.Goals as goal

pub returns : goal.returns
returns c = record {
  stands = record { ended = refl; unread = refl; unwritten = refl };
  trace = λ b o. trace_gave _ _ b o _ refl refl;
}
