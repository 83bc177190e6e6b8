-- The first k subwords are in the sum.
use Rattle.std.proofs.Common.{length, ◌≡◌}
use Rattle.series.specs.Shift.{cut}
use Rattle.series.specs.Array.{bytes}
use Rattle.code.specs.Combined.{combined}
use Rattle.extend.specs.LagrangeDefinition.{flag, lagrange}
use Rattle.extend.proofs.merge.Given as goal

abbrev pub invariant-loop-k : goal.invariant-loop-k
invariant-loop-k l =
    (length l.word ≡ 255)
    × (bytes l.word ≡ cut l.p.length (combined l.p.length (bytes l.block) (lagrange l.p.subwords (flag l.pending) l.i)
    l.k))
