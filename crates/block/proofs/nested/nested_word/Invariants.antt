-- The first i subwords are in the sum.
use Rattle.std.proofs.Common.{length, ◌*◌, ◌≡◌}
use Rattle.field.specs.Field.{α, pow}
use Rattle.series.specs.Shift.{cut}
use Rattle.series.specs.Array.{bytes}
use Rattle.code.specs.Combined.{combined}
use Rattle.block.proofs.nested.nested_word.Given as goal

abbrev pub invariant-loop-i : goal.invariant-loop-i
invariant-loop-i l =
    (length l.word ≡ 255)
    × (bytes l.word ≡ cut l.p.length (combined l.p.length (bytes l.block) (λ k. pow α (k * l.l)) l.i))
