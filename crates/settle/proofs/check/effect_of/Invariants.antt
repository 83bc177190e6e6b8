-- What the symbols below p do.
use Rattle.std.proofs.Common.{◌≡◌}
use Rattle.series.specs.Shift.{cut}
use Rattle.series.specs.Array.{values, bytes}
use Rattle.series.specs.Word.{weight}
use Rattle.code.specs.Word.{syndrome}
use Rattle.settle.proofs.check.effect_of.Given as goal

abbrev pub invariant-loop-p : goal.invariant-loop-p
invariant-loop-p l =
    (l.count ≡ weight l.p (values l.pattern)) × (bytes l.syndromes ≡ cut l.m (syndrome 1 l.p (values l.pattern)))
