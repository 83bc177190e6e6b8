-- The syndromes of a word of zeros are zero.
use Rattle.std.specs.Prelude.{ℕ, ◌≡◌}
use Rattle.std.proofs.Common.{sym, ap, ◌∙◌}
use Rattle.field.specs.Field.{𝟎}
use Rattle.series.specs.Series.{Series, O, O-at}
use Rattle.series.specs.Shift.{cut, cut_unique}
use Rattle.series.specs.Value.{value-zero}
use Rattle.code.specs.Word.{root, syndrome}
use Rattle.code.specs.Systematic.{syndrome-is}

pub zero-syndromes : (first n k : ℕ) (w : Series) → w ≡ O → O ≡ cut k (syndrome first n w)
zero-syndromes first n k w z =
    sym (cut_unique k (syndrome first n w) O (λ j _. none j ∙ sym (O-at j)) (λ j _. O-at j))
  where
    none : (j : ℕ) → syndrome first n w j ≡ 𝟎
    none j = syndrome-is first n w j ∙ value-zero n w (root first j) (λ i _. ap (λ (f : Series). f i) z ∙ O-at i)
