-- The three sums over the subwords from j on, as far as they are asked for.
use Rattle.std.proofs.Common.{length, ◌≡◌}
use Rattle.series.specs.Array.{bytes}
use Rattle.encoder.specs.CarryPascal.{Gathers}
use Rattle.encoder.proofs.carry.corner.Given as goal

abbrev pub invariant-loop-j : goal.invariant-loop-j
invariant-loop-j l =
    (length l.a ≡ 255) × (length l.b ≡ 255) × (length l.c ≡ 255)
    × Gathers l.p.length l.p.subwords (bytes l.block) l.i 0 l.j l.a
    × Gathers l.p.length l.p.subwords (bytes l.block) l.i 1 l.j l.b
    × Gathers l.p.length l.p.subwords (bytes l.block) l.i 2 l.j l.c
