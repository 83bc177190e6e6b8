-- What a round reads, and the words that it takes its new syndromes of.
--
--   merged p b s i           subwords 0 to m − 1 of the block s, each times its `lagrange`, in one word
--   extended p a b o s i r   the row r of subword i after a round: with syndromes S_a to S_(b−1) of its merged word, if
--                            its flag says unsettled
--   Seen p o s t g           flags, block and table of syndromes are those of the progress g
use Rattle.std.specs.Prelude.{ℕ, ◌<◌, ◌≡◌, Bool, cond, List}
use Rattle.field.specs.declared.Gf.{Gf}
use Rattle.series.specs.Series.{Series}
use Rattle.series.specs.Array.{bytes}
use Rattle.profile.specs.declared.Profile.{Profile}
use Rattle.code.specs.Combined.{combined}
use Rattle.code.specs.Definition.{syndrome_of}
use Rattle.block.specs.Table.{table}
use Rattle.staged_decoding.specs.Definition.{Progress, open?, window}
use Rattle.extend.specs.LagrangeDefinition.{flag, lagrange}

-- for an unsettled subword i, b telling the unsettled ones, the equations of FORMAT 6.6 are solved by the syndrome of
-- this word
abbrev pub merged : Profile → (ℕ → Bool) → Series → ℕ → Series
merged p b s i = combined p.length s (lagrange p.subwords b i) p.subwords

abbrev pub extended : Profile → (a b : ℕ) → List Bool → Series → ℕ → Series → Series
extended p a b o s i r = cond (flag o i) (window a b (syndrome_of p (merged p (flag o) s i)) r) r

-- a flag says that the subword is not settled
pub record Seen (p : Profile) (o : List Bool) (s : List ℕ) (t : List (List Gf)) (g : Progress) : Type 0 where
  pub block : g.block ≡ bytes s
  pub flags : (i : ℕ) → i < p.subwords → open? g i ≡ flag o i
  pub row : g.row ≡ table t
