-- All nested words before l vanish, and the syndromes passed of nested word l are zero.
use Rattle.std.proofs.Common.{get_or, ℕ, ◌<◌, ◌≡◌}
use Rattle.field.specs.Field.{𝟎, val}
use Rattle.series.specs.Array.{bytes}
use Rattle.block.specs.CodewordDefinition.{Vanish}
use Rattle.block.proofs.codeword.is_codeword.Given as goal

abbrev pub invariant-loop-s : goal.invariant-loop-s
invariant-loop-s l = (i : ℕ) → i < l.s-index → val (get_or l.s-items i (record { 0 = 0 })) ≡ 𝟎

abbrev pub invariant-loop-l : goal.invariant-loop-l
invariant-loop-l l = (a : ℕ) → a < l.l → Vanish l.p (bytes l.block) a
