-- What the codeword check divides by, and what is left.
--
--   further p           how many roots the first nested word has past the 2 t0 of the subwords
--   Further p u         u is the table for these roots, if there are nested words
--   Tables p t u        t is the table for the roots of the subwords, and u the one for the further roots of
--                       nested words
--   zeros? t            whether a table of syndromes is zero
--   left p s l          the remainder of nested word l of the block s by the further roots
--   Vanish p s l        the syndromes of nested word l from number 2 t0 on, as many as its code asks for, are zero
--   Remainders p s r    the rows of r are the remainders of the nested words
use Rattle.std.specs.Prelude.{ℕ, ◌+◌, ◌-◌, ◌*◌, ◌≤◌, ◌<◌, ◌≡◌, List, [], length, get_or}
use Rattle.field.specs.declared.Gf.{Gf}
use Rattle.field.specs.Field.{𝟎}
use Rattle.series.specs.Series.{Series, O}
use Rattle.series.specs.Array.{bytes}
use Rattle.series.specs.Decide.{all?}
use Rattle.polynomial.specs.SyndromesZero.{zero?}
use Rattle.profile.specs.declared.Profile.{Profile}
use Rattle.profile.specs.Definition.{first-root, checks}
use Rattle.divider.specs.GeneratorTable.{Table}
use Rattle.divider.specs.ReedSolomonResidue.{residue}
use Rattle.code.specs.Definition.{syndrome_of, nested}
use Rattle.block.specs.Table.{table}

abbrev pub further : Profile → ℕ
further p = checks p 0 - 2 * p.t0

abbrev pub Further : Profile → List ℕ → Type 0
Further p u = 0 < p.nested → Table (first-root p + 2 * p.t0) (further p) u

pub record Tables (p : Profile) (t u : List ℕ) : Type 0 where
  pub subwords : Table (first-root p) (2 * p.t0) t
  pub further : Further p u

pub zeros? : (t : List (List Gf)) → Dec ((i : ℕ) → i < 8 → table t i ≡ O)
zeros? t = all? 8 (λ i. zero? (get_or t i []))

abbrev pub left : Profile → Series → ℕ → Series
left p s l = residue (first-root p + 2 * p.t0) p.length (further p) (nested p s l)

abbrev pub Remainders : Profile → Series → List (List ℕ) → Type 0
Remainders p s r = (l : ℕ) → l < p.nested → (length (get_or r l []) ≡ 48) × (bytes (get_or r l []) ≡ left p s l)

abbrev pub Vanish : Profile → Series → ℕ → Type 0
Vanish p s l = (j : ℕ) → 2 * p.t0 ≤ j → j < checks p l → syndrome_of p (nested p s l) j ≡ 𝟎
