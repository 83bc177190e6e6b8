-- Nothing went through.
use Rattle.std.proofs.Common.{refl}
use Rattle.stream.specs.Trace.{trace_open}
use Rattle.stream.proofs.Stream.open.Goals as goal

pub returns : goal.returns
returns c = record { trace = trace_open _ refl refl; ended = refl; unread = refl; unwritten = refl }
