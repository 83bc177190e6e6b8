-- Tables of multiples: 256 rows of 48 symbols, row f holding f times row 1.
--
--   wide t f          row f of the table t in rows of six words
--   narrow t f        the same in rows of four words: the upper ones, above zeros
--   rows k            the rows of a table for degree k: narrow up to 32, wide above
--   Spare n r         the first n symbols of r are zero
--   lower row t       row 1: the lower coefficients of the polynomial z^48 + lower row t that the table is for
--   Multiples row t   t is such a table
use Rattle.std.specs.Prelude.{ℕ, ◌+◌, ◌*◌, ◌≤◌, ◌<◌, ◌≡◌, refl, List, length, get_or}
use Rattle.std.proofs.Math.Decide.{dec_le}
use Rattle.std.proofs.Common.{arith}
use Rattle.field.specs.Field.{𝟎, of}
use Rattle.series.specs.Series.{Series, K, ◌⊠◌}
use Rattle.divider.specs.declared.packed.Packed.{Packed}
use Rattle.divider.specs.Packed.{six, packed}

abbrev pub Rows : Type 0
Rows = List ℕ → ℕ → Series

abbrev pub wide : Rows
wide t f =
    six (get_or t (f * 6) 0) (get_or t (f * 6 + 1) 0) (get_or t (f * 6 + 2) 0) (get_or t (f * 6 + 3) 0)
    (get_or t (f * 6 + 4) 0) (get_or t (f * 6 + 5) 0)

abbrev pub narrow : Rows
narrow t f = six 0 0 (get_or t (f * 4) 0) (get_or t (f * 4 + 1) 0) (get_or t (f * 4 + 2) 0) (get_or t (f * 4 + 3) 0)

choose : {k : ℕ} → Dec (k ≤ 32) → Rows
choose (yes _) = narrow
choose (no _) = wide

pub rows : ℕ → Rows
rows k = choose (dec_le k 32)

pub rows-narrow : (k : ℕ) → k ≤ 32 → rows k ≡ narrow
unfolding rows choose
rows-narrow k h = go (dec_le k 32)
  where
    go : (d : Dec (k ≤ 32)) → choose d ≡ narrow
    go (yes _) = refl
    go (no n) = absurd (n h)

pub rows-wide : (k : ℕ) → 32 < k → rows k ≡ wide
unfolding rows choose
rows-wide k h = go (dec_le k 32)
  where
    go : (d : Dec (k ≤ 32)) → choose d ≡ wide
    go (yes l) = absurd (omega arith)
    go (no _) = refl

abbrev pub Spare : ℕ → Packed → Type 0
Spare n r = (i : ℕ) → i < n → packed r i ≡ 𝟎

unfoldable pub lower : Rows → List ℕ → Series
lower row t = row t 1

pub record Multiples (row : Rows) (t : List ℕ) : Type 0 where
  pub long : 1536 ≤ length t
  pub at : (f : ℕ) → f < 256 → row t f ≡ K (of f) ⊠ lower row t
