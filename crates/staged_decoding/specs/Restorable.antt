-- What it takes to restore a written block: FORMAT 6.11. The codeword c was written, and y received; the changes of a
-- subword are its differences in c and y.
--
--   beyond p c y r      how many subwords have more than t_r changes
--   Reached p c y r     stage r is reached: after each stage before it such subwords are left, and not too many
--   Unmistaken p c y    no subword with more than t_r changes is settled at stage r
--   Restorable p c y    nor are more than v − r subwords beyond t_r, for any r
--   TooMany p c y s     s is the first stage after which more than v − s subwords have more than t_s changes
--   Least p c y i r     r is the first stage of which subword i has no more than t_r changes
--   Restored p c y x    the report x says what was changed
use Rattle.std.specs.Prelude.{ℕ, ◌-◌, ◌≤◌, ◌<◌, ◌≡◌, Bool, ltb}
use Rattle.std.proofs.Math.Option.{none}
use Rattle.series.specs.Series.{Series, ◌⊞◌}
use Rattle.profile.specs.declared.Profile.{Profile}
use Rattle.profile.specs.Definition.{capability}
use Rattle.code.specs.Definition.{syndrome_of, subword, Codeword}
use Rattle.staged_decoding.specs.Definition.{count, total, line_of, settle_at, Report, differences}
use Rattle.staged_decoding.specs.Definition.{bit_differences}

abbrev pub beyond? : Profile → Series → Series → ℕ → ℕ → Bool
beyond? p c y r i = ltb (capability p r) (differences p y c i)

unfoldable pub beyond : Profile → Series → Series → ℕ → ℕ
beyond p c y r = count p.subwords (beyond? p c y r)

abbrev pub Reached : Profile → Series → Series → ℕ → Type 0
Reached p c y r = (q : ℕ) → q < r → (1 ≤ beyond p c y q) × (beyond p c y q ≤ p.nested - q)

-- the syndromes that count are those of the changes: the written block has none
pub record Unmistaken (p : Profile) (c y : Series) : Type 0 where
  pub written : Codeword p c
  pub never : (r : ℕ) → r ≤ p.nested → Reached p c y r → (i : ℕ) → i < p.subwords
      → capability p r < differences p y c i
      → settle_at p r (syndrome_of p (subword p.length (y ⊞ c) i)) ≡ none

pub record Restorable (p : Profile) (c y : Series) : Type 0 where
  pub unmistaken : Unmistaken p c y
  pub few : (r : ℕ) → r ≤ p.nested → beyond p c y r ≤ p.nested - r

pub record TooMany (p : Profile) (c y : Series) (s : ℕ) : Type 0 where
  pub low : s ≤ p.nested
  pub many : p.nested - s < beyond p c y s
  pub first : (q : ℕ) → q < s → beyond p c y q ≤ p.nested - q

pub record Least (p : Profile) (c y : Series) (i r : ℕ) : Type 0 where
  pub within : differences p y c i ≤ capability p r
  pub over : (q : ℕ) → q < r → capability p q < differences p y c i

pub record Restored (p : Profile) (c y : Series) (x : Report) : Type 0 where
  pub line : (i : ℕ) → i < p.subwords
      → (r : ℕ) × Least p c y i r × (x.line i ≡ line_of r (differences p y c i) (bit_differences p y c i))
  pub changed : x.changed ≡ total p.subwords (differences p y c)
  pub bits : x.bits ≡ total p.subwords (bit_differences p y c)
  pub last : (x.last ≤ p.nested) × Reached p c y x.last × (beyond p c y x.last ≡ 0)
