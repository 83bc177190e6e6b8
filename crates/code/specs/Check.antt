-- Tables of syndromes, and the words that tell a codeword.
--
--   Subwords p s     every subword of the block s is in the code of t0
--   rows r f         the rows f 0, .., f (r - 1), then zeros
--   received p s k   the syndromes j < k of the subwords of the block s
--   sums p s w       m words that tell a codeword: the nested words, then the subwords from v on
--
-- Proved: a block of a valid profile is a codeword if the syndromes below `checks p w` of its m words are zero
-- (sums-codeword).
use Rattle.std.specs.Prelude.{ℕ, ◌≤◌, ◌<◌, ◌≡◌, cond, ltb}
use Rattle.std.proofs.Common.{arith, lt-ltb, le-ltb}
use Rattle.field.specs.Field.{𝟎}
use Rattle.series.specs.Series.{Series, O}
use Rattle.series.specs.Shift.{cut}
use Rattle.profile.specs.declared.Profile.{Profile}
use Rattle.profile.specs.Definition.{checks}
use Rattle.profile.specs.Valid.{Valid, checks-is, checks-high}
use Rattle.code.specs.Definition.{syndrome_of, InCodeOf, subword, nested, Codeword}
use Rattle.code.specs.Triangle.{checked_triangle, triangle-codeword}

-- the first half of FORMAT 3.5: each strip belongs to the code of strength t0
abbrev pub Subwords : Profile → Series → Type 0
Subwords p s = (i : ℕ) → i < p.subwords → InCodeOf p p.t0 (subword p.length s i)

-- ---- tables of syndromes

-- the rows f 0, .., f (r - 1), then zeros
abbrev pub rows : ℕ → (ℕ → Series) → ℕ → Series
rows r f i = cond (ltb i r) (f i) O

-- FORMAT 6.1: the table of syndromes, with 0 for what is not known
abbrev pub received : Profile → Series → ℕ → ℕ → Series
received p s k = rows p.subwords (λ i. cut k (syndrome_of p (subword p.length s i)))

-- ---- m words

abbrev pub sums : Profile → Series → ℕ → Series
sums p s w = cond (ltb w p.nested) (nested p s w) (subword p.length s w)

module _ (p : Profile) (s : Series) where
  sums-low : (w : ℕ) → w < p.nested → sums p s w ≡ nested p s w
  sums-low w h = rw (lt-ltb w p.nested h)

  sums-high : (w : ℕ) → p.nested ≤ w → sums p s w ≡ subword p.length s w
  sums-high w h = rw (le-ltb w p.nested h)

  -- the subwords below v follow from the others and the nested words: the triangular form
  pub sums-codeword : Valid p
      → ((w : ℕ) → w < p.subwords → (j : ℕ) → j < checks p w → syndrome_of p (sums p s w) j ≡ 𝟎) → Codeword p s
  sums-codeword ok h =
      triangle-codeword p s ok
      (checked_triangle p s ok (λ i l u j q. rw (sums-high i l) at (h i u j (omega (arith, checks-high p i l))))
      (λ l u j q. rw (sums-low l u) at (h l (omega arith) j (omega (arith, checks-is p l)))))
