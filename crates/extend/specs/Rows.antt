-- From the merged words to the rows of a round.
--
--   partly r f t     the rows f 0, .., f (r − 1), then those of t
--
-- Proved: for a valid profile the new syndromes of an unsettled subword are those of its merged word (fresh-merged), so
-- the extended rows are the round's (extend-is). A loop over subwords makes `partly` (partly_none, partly_more); what
-- is done for one subword makes `extended` (extended_no, extended-word). A word's syndromes are those of its remainder,
-- in arrays (left-syndrome).
use Rattle.std.specs.Prelude.{ℕ, ◌+◌, ◌≤◌, ◌<◌, ◌≡◌, refl, Bool, true, false, cond, List, [], ltb, length, set, take}
use Rattle.std.proofs.Math.Path.{sym, fun_ext}
use Rattle.std.proofs.Common.{ap, ap₂, ◌∙◌, arith, get_or-set_same, get_or-set_other, lt-ltb, le-ltb}
use Rattle.std.proofs.Math.Decide.{dec_lt, ℕ_discrete}
use Rattle.field.specs.declared.Gf.{Gf}
use Rattle.field.specs.Field.{◌⊙◌}
use Rattle.series.specs.Sum.{sum, sum_cong}
use Rattle.series.specs.Series.{Series}
use Rattle.series.specs.Shift.{cut, cut_low}
use Rattle.series.specs.Array.{bytes}
use Rattle.polynomial.specs.Polynomial.{row}
use Rattle.profile.specs.declared.Profile.{Profile}
use Rattle.profile.specs.Definition.{first-root}
use Rattle.profile.specs.Valid.{Valid}
use Rattle.code.specs.Word.{syndrome}
use Rattle.code.specs.Systematic.{syndrome-sum}
use Rattle.divider.specs.ReedSolomonResidue.{residue, residue-from}
use Rattle.code.specs.Definition.{syndrome_of, subword}
use Rattle.code.specs.Block.{syndrome-nested}
use Rattle.code.specs.Combined.{combined}
use Rattle.block.specs.Table.{table}
use Rattle.block.specs.Parts.{prefix-residue}
use Rattle.staged_decoding.specs.Definition.{Progress, open?, unsettled, fresh, window, extend}
use Rattle.staged_decoding.specs.Round.{extend-past, system_solves}
use Rattle.extend.specs.LagrangeDefinition.{flag, lagrange}
use Rattle.extend.specs.Lagrange.{lagrange_solves, lagrange_cong}
use Rattle.extend.specs.Definition.{merged, extended, Seen}
use Rattle.extend.specs.Splice.{window_cong}

-- ---- the merged words

merged-syndrome : (p : Profile) (b : ℕ → Bool) (s : Series) (i j : ℕ)
    → syndrome_of p (merged p b s i) j
    ≡ sum p.subwords (λ k. lagrange p.subwords b i k ⊙ syndrome_of p (subword p.length s k) j)
unfolding combined
merged-syndrome p b s i j =
    syndrome-sum (first-root p) p.subwords p.length (lagrange p.subwords b i) (subword p.length s) j

module _ (p : Profile) (ok : Valid p) (g : Progress) (i : ℕ) (h : i < p.subwords) where
  pub fresh-merged : open? g i ≡ true → (j : ℕ)
      → fresh p g i j ≡ syndrome_of p (merged p (open? g) g.block i) j
  unfolding fresh unsettled
  fresh-merged t j =
      lagrange_solves p.subwords (open? g) (omega (arith, ok.subwords.1)) i h t _ _
      (λ l q. system_solves p ok g j l q ∙ syndrome-nested p g.block l j)
      ∙ sym (merged-syndrome p (open? g) g.block i j)

-- only the tests of numbers below m count
merged_cong : (p : Profile) (b c : ℕ → Bool) (s : Series) (i j : ℕ) → ((k : ℕ) → k < p.subwords → b k ≡ c k)
    → syndrome_of p (merged p b s i) j ≡ syndrome_of p (merged p c s i) j
merged_cong p b c s i j h =
    merged-syndrome p b s i j
    ∙ sum_cong p.subwords _ _
    (λ k l. ap (λ x. x ⊙ syndrome_of p (subword p.length s k) j) (lagrange_cong p.subwords b c i k h))
    ∙ sym (merged-syndrome p c s i j)

-- ---- from the remainder

-- a word g stands in the first n entries of the array w, its remainder by the k roots from root a on in the first k of
-- r, and syndromes of the remainder in s
pub left-syndrome : (f a n k b : ℕ) (g : Series) (w r : List ℕ) (s : List Gf)
    → k ≤ 48 → b ≤ a + k → n ≤ length w → length r ≡ 48
    → bytes w ≡ cut n g → bytes r ≡ residue (f + a) (length (take n w)) k (bytes (take n w))
    → row s ≡ cut b (syndrome f (length (take k r)) (bytes (take k r))) → (j : ℕ) → a ≤ j → j < b
    → row s j ≡ syndrome f n g j
left-syndrome f a n k b g w r s small most room long word left is j low h =
    ap (λ (v : Series). v j) is
    ∙ cut_low b _ j h
    ∙ residue-from f a n k g (omega arith) r (omega arith) (left ∙ prefix-residue (f + a) n k w g room word) j low
    (omega arith)

-- ---- rows, one after the other

abbrev pub partly : ℕ → (ℕ → Series) → (ℕ → Series) → ℕ → Series
partly r f t i = cond (ltb i r) (f i) (t i)

partly-low : (r : ℕ) (f t : ℕ → Series) (i : ℕ) → i < r → partly r f t i ≡ f i
partly-low r f t i h = rw (lt-ltb i r h)

partly-high : (r : ℕ) (f t : ℕ → Series) (i : ℕ) → r ≤ i → partly r f t i ≡ t i
partly-high r f t i h = rw (le-ltb i r h)

pub partly_none : (f t : ℕ → Series) → t ≡ partly 0 f t
partly_none f t = fun_ext (λ i. sym (partly-high 0 f t i (omega arith)))

pub partly_more : (out : List (List Gf)) (i : ℕ) (r : List Gf) (f t : ℕ → Series)
    → i < length out → table out ≡ partly i f t → row r ≡ f i
    → table (set out i r) ≡ partly (i + 1) f t
partly_more out i r f t h e q = fun_ext (λ a. go a (ℕ_discrete a i) (dec_lt a i))
  where
    old : (a : ℕ) → ¬ (a ≡ i) → table (set out i r) a ≡ partly i f t a
    old a s = ap row (get_or-set_other out i a r [] s) ∙ ap (λ (g : ℕ → Series). g a) e

    go : (a : ℕ) → Dec (a ≡ i) → Dec (a < i) → table (set out i r) a ≡ partly (i + 1) f t a
    go a (yes s) l = rw s (ap row (get_or-set_same out i r [] h) ∙ q ∙ sym (partly-low (i + 1) f t i (omega arith)))
    go a (no s) (yes l) = old a s ∙ partly-low i f t a l ∙ sym (partly-low (i + 1) f t a (omega arith))
    go a (no s) (no l) = old a s ∙ partly-high i f t a (omega arith) ∙ sym (partly-high (i + 1) f t a (omega arith))

-- ---- the rows of a round

module _ (p : Profile) (a b : ℕ) (o : List Bool) (s : Series) (i : ℕ) (r : Series) where
  extended_yes : flag o i ≡ true → extended p a b o s i r ≡ window a b (syndrome_of p (merged p (flag o) s i)) r
  extended_yes e = rw e

  pub extended_no : flag o i ≡ false → r ≡ extended p a b o s i r
  extended_no e = rw e

  -- the new entries are syndromes of the merged word
  pub extended-word : (g out : Series) → flag o i ≡ true
      → ((j : ℕ) → a ≤ j → j < b → g j ≡ syndrome_of p (merged p (flag o) s i) j)
      → out ≡ window a b g r → out ≡ extended p a b o s i r
  extended-word g out e same q = q ∙ window_cong a b g _ r same ∙ sym (extended_yes e)

module _ (p : Profile) (ok : Valid p) (a b : ℕ) (o : List Bool) (s : List ℕ) (t : List (List Gf)) (g : Progress)
    (seen : Seen p o s t g) where
  abbrev rows : ℕ → Series
  rows i = extended p a b o (bytes s) i (table t i)

  fresh_seen : (i : ℕ) → i < p.subwords → flag o i ≡ true
      → fresh p g i ≡ syndrome_of p (merged p (flag o) (bytes s) i)
  fresh_seen i h e = fun_ext (λ j.
      fresh-merged p ok g i h (seen.flags i h ∙ e) j
      ∙ ap (λ (s : Series). syndrome_of p (merged p (open? g) s i) j) seen.block
      ∙ merged_cong p (open? g) (flag o) (bytes s) i j seen.flags)

  row_at : (i : ℕ) → g.row i ≡ table t i
  row_at i = ap (λ (f : ℕ → Series). f i) seen.row

  extend-at : (i : ℕ) (x : Bool) → i < p.subwords → flag o i ≡ x
      → (extend p a b g).row i ≡ cond x (window a b (fresh p g i) (g.row i)) (g.row i)
  unfolding extend
  extend-at i x h e = rw (lt-ltb i p.subwords h, seen.flags i h ∙ e)

  pub extend-is : (k : ℕ) → k ≡ p.subwords → partly k rows (table t) ≡ (extend p a b g).row
  extend-is k all = ap (λ k. partly k rows (table t)) all ∙ fun_ext (λ i. go i (dec_lt i p.subwords) (flag o i) refl)
    where
      go : (i : ℕ) → Dec (i < p.subwords) → (x : Bool) → flag o i ≡ x
          → partly p.subwords rows (table t) i ≡ (extend p a b g).row i
      go i (yes h) true e =
          partly-low p.subwords rows (table t) i h
          ∙ extended_yes p a b o (bytes s) i (table t i) e
          ∙ ap₂ (window a b) (sym (fresh_seen i h e)) (sym (row_at i))
          ∙ sym (extend-at i true h e)
      go i (yes h) false e =
          partly-low p.subwords rows (table t) i h
          ∙ sym (extended_no p a b o (bytes s) i (table t i) e)
          ∙ sym (row_at i)
          ∙ sym (extend-at i false h e)
      go i (no h) x e =
          partly-high p.subwords rows (table t) i (omega arith) ∙ sym (row_at i)
          ∙ sym (extend-past p a b g i (omega arith))
