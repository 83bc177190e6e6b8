-- What settles a subword: FORMAT 6.2 and 6.3. No algorithm is mentioned here.
-- A pattern of changes is a word: a series of which the first n symbols are read. Of a subword's syndromes the first
-- 2t are read.
--
--   Within t n e         the pattern e is within the capability t
--   Explains f t n s e   it is, and its syndromes, the first root being α^f, are those of s
--   settle f t n s       the pattern that explains s; none if there is none
use Rattle.std.specs.Prelude.{ℕ, ◌*◌, ◌≤◌, ◌<◌, ◌≡◌, List}
use Rattle.std.proofs.Math.Logic.Dec
use Rattle.std.proofs.Math.Option.{Option}
use Rattle.std.proofs.Math.Decide.{dec_le}
use Rattle.field.specs.Field.{F, ◌≟◌}
use Rattle.series.specs.Series.{Series}
use Rattle.series.specs.Decide.{all?}
use Rattle.series.specs.Word.{entry, weight}
use Rattle.series.specs.First.{first}
use Rattle.code.specs.Word.{syndrome}

-- FORMAT 6.3: t_r changes or fewer; 6.2: none of them 0, at places below n
abbrev pub Within : ℕ → ℕ → Series → Type 0
Within t n e = weight n e ≤ t

-- FORMAT 6.3: .. and, for each j below 2 × t_r, the strip's S_j
pub record Explains (f t n : ℕ) (s e : Series) : Type 0 where
  pub within : Within t n e
  pub syndromes : (j : ℕ) → j < 2 * t → syndrome f n e j ≡ s j

unfoldable pub explains? : (f t n : ℕ) (s e : Series) → Dec (Explains f t n s e)
explains? f t n s e =
    Dec.of_iff (to, from) (Dec.and (dec_le (weight n e) t) (all? (2 * t) (λ j. syndrome f n e j ≟ s j)))
  where
    to : Within t n e × ((j : ℕ) → j < 2 * t → syndrome f n e j ≡ s j) → Explains f t n s e
    to (w, h) = record { within = w; syndromes = h }

    from : Explains f t n s e → Within t n e × ((j : ℕ) → j < 2 * t → syndrome f n e j ≡ s j)
    from x = (x.within, x.syndromes)

-- FORMAT 6.3: if a pattern explains the strip, it settles it; if there is none, the strip fails this stage
unfoldable pub settle : ℕ → ℕ → ℕ → Series → Option (List F)
settle f t n s = first n (λ w. explains? f t n s (entry w))
