-- Codewords of a profile: FORMAT 3. A block is a series of which the first m × n symbols are read.
--
--   syndrome_of p w  the syndromes of a word w of n symbols, the first root being the profile's; InCodeOf p t w: w is
--                    in the code of capability t
--   subword n s i    subword i of the block s, FORMAT's strip
--   nested p s l     nested word l, FORMAT's nested sum
--   Codeword p s     the block s is a codeword
--   Carries p d s    the data d stands in the data positions of the block s
--   Encodes p d s    both
use Rattle.std.specs.Prelude.{ℕ, ◌+◌, ◌-◌, ◌*◌, ◌<◌, ◌≡◌}
use Rattle.field.specs.Field.{F, α, ◌⊙◌, pow}
use Rattle.series.specs.Sum.{sum}
use Rattle.series.specs.Series.{Series}
use Rattle.profile.specs.declared.Profile.{Profile}
use Rattle.profile.specs.Definition.{capability, first-root, checks, data_length, data_start}
use Rattle.code.specs.Word.{syndrome, InCode}

-- FORMAT 3.2 and 3.3
abbrev pub syndrome_of : Profile → Series → ℕ → F
syndrome_of p = syndrome (first-root p) p.length

abbrev pub InCodeOf : Profile → ℕ → Series → Type 0
InCodeOf p = InCode (first-root p) p.length

-- FORMAT 3.1: the byte at place q of strip i stands at i × n + q of the block
unfoldable pub subword : ℕ → Series → ℕ → Series
subword n s i q = s (i * n + q)

-- FORMAT 3.4: α^(i×l) × c_i, summed over all strips
unfoldable pub nested : Profile → Series → ℕ → Series
nested p s l q = sum p.subwords (λ i. pow α (i * l) ⊙ subword p.length s i q)

-- FORMAT 3.5: each strip belongs to the code of strength t0, and nested sum l to that of strength t_(v−l)
pub record Codeword (p : Profile) (s : Series) : Type 0 where
  pub subwords : (i : ℕ) → i < p.subwords → InCodeOf p p.t0 (subword p.length s i)
  pub nested_words : (l : ℕ) → l < p.nested → InCodeOf p (capability p (p.nested - l)) (nested p s l)

-- FORMAT 3.7: data fill the data places of strip 0 with rising places, then those of strip 1, and so on
abbrev pub Carries : Profile → Series → Series → Type 0
Carries p d s = (i : ℕ) → i < p.subwords → (q : ℕ) → q < data_length p i
    → subword p.length s i (checks p i + q) ≡ d (data_start p i + q)

pub record Encodes (p : Profile) (d s : Series) : Type 0 where
  pub code : Codeword p s
  pub carries : Carries p d s
