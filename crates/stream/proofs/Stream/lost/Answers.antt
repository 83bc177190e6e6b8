-- Only the mark is set.
use Rattle.std.proofs.Common.{refl}
use Rattle.stream.specs.Trace.{trace-same}
use Rattle.stream.proofs.Stream.lost.Goals as goal

pub returns : goal.returns
returns c = record {
  ended = refl;
  unread = refl;
  unwritten = refl;
  trace = λ b o. trace-same _ _ b o refl refl;
}
