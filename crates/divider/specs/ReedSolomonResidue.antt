-- The remainder of a word by the generator of k roots, the first one being α^first, and what it tells of the word.
--
--   residue first n k w   that remainder: the one polynomial of degree below k with the word's values at these roots
--   Residual first k l r  the array r of 48 symbols holds the remainder of the word l
--
-- Proved: it has the word's first k syndromes (residue-syndrome; residue_array and residue-syndromes from an array), so
-- one by the roots from number a on has those from number a on (residue-from); it is found by the table
-- (residue-table) and depends on the first n symbols (residue_cong). A word and its remainder make the systematic word
-- (residue-systematic).
use Rattle.std.specs.Prelude.{ℕ, ◌+◌, ◌-◌, ◌≤◌, ◌<◌, ◌≡◌, List, length, take}
use Rattle.std.proofs.Common.{sym, ap₂, ◌∙◌, arith, length-take-le}
use Rattle.std.proofs.Math.Path.{ap, fun_ext}
use Rattle.field.specs.Field.{F, ◌⊕◌, ◌⊙◌, of, ⊕-group, pow}
use Rattle.field.proofs.Field.{power_nonzero}
use Rattle.series.specs.Series.{Series, ◌⊞◌, ⊞-group}
use Rattle.series.specs.Shift.{drop, cut, cut_low, cut-drop}
use Rattle.series.specs.Degree.{below, below-cut, below-⊞}
use Rattle.series.specs.Array.{bytes}
use Rattle.series.specs.Part.{read_take}
use Rattle.series.specs.Value.{value, value-more, value_cong, value_split, value-⊞}
use Rattle.series.specs.Interpolation.{interpolate, interpolate-at, interpolate-is, below-interpolate}
use Rattle.kernel.specs.Store.{cut_cong}
use Rattle.divider.specs.DivisionRemainder.{remainder, remainder-top}
use Rattle.divider.specs.Multiples.{rows, lower}
use Rattle.divider.specs.Generator.{rest, aligned, below_rest, rest-value}
use Rattle.divider.specs.GeneratorTable.{Table}
use Rattle.code.specs.Word.{root, syndrome, upper, systematic}
use Rattle.code.specs.Systematic.{roots_distinct, syndrome-is, syndrome-from, syndrome_cong, syndrome-⊞}
use Rattle.code.specs.Systematic.{check_symbols-is}

unfoldable pub residue : ℕ → ℕ → ℕ → Series → Series
residue first n k w = interpolate k (root first) (syndrome first n w)

pub record Residual (first k : ℕ) (l r : List ℕ) : Type 0 where
  pub long : length r ≡ 48
  pub is : bytes r ≡ residue first (length l) k (bytes l)

pub below-residue : (first n k : ℕ) (w : Series) → below k (residue first n k w)
unfolding residue
below-residue first n k w = below-interpolate k _ _

pub residue_cong : (first n k : ℕ) (f g : Series) → ((i : ℕ) → i < n → f i ≡ g i)
    → residue first n k f ≡ residue first n k g
unfolding residue
residue_cong first n k f g same = ap (interpolate k (root first)) (fun_ext (syndrome_cong first n f g same))

-- by the table: from what the symbols from k on leave
pub residue-table : (first n k : ℕ) (t : List ℕ) (w r out : Series) → k ≤ 48 → k ≤ n → Table first k t
    → r ≡ remainder (lower (rows k) t) (n - k) (drop k w) → out ≡ cut k (w ⊞ drop (48 - k) r)
    → out ≡ residue first n k w
unfolding residue aligned root syndrome
residue-table first n k t w r out h l p e o =
    interpolate-is k out _ _ (roots_distinct first k (omega arith)) (rw o (below-cut k _)) (λ j b.
    ap (λ (f : Series). value k f (x j)) o
    ∙ value_cong k _ _ (x j) (cut_low k _)
    ∙ value-⊞ k w _ (x j)
    ∙ ap (λ (s : F). value k w (x j) ⊕ s) (left j b)
    ∙ sym (whole j))
  where
    x : ℕ → F
    x = root first

    left : (j : ℕ) → j < k → value k (drop (48 - k) r) (x j) ≡ pow (x j) k ⊙ value (n - k) (drop k w) (x j)
    left j b =
        ap (λ (f : Series). value k (drop (48 - k) f) (x j)) e
        ∙ remainder-top k (rest first k) (lower (rows k) t) (n - k) (drop k w) (x j) (omega arith) p.generator
        (below_rest first k) (power_nonzero (first + j)) (rest-value first k j b)

    whole : (j : ℕ) → value n w (x j) ≡ value k w (x j) ⊕ pow (x j) k ⊙ value (n - k) (drop k w) (x j)
    whole j = let e : n ≡ k + (n - k) = omega arith in ap (λ (m : ℕ). value m w (x j)) e ∙ value_split k (n - k) w (x j)

pub residual-table : (first k : ℕ) (t : List ℕ)
    → k ≤ 48 → Table first k t → (l : List ℕ) (r : Series) (out : List ℕ) → k ≤ length l → length out ≡ 48
    → r ≡ remainder (lower (rows k) t) (length l - k) (drop k (bytes l)) → bytes out ≡ cut k (bytes l ⊞ drop (48 - k) r)
    → Residual first k l out
residual-table first k t h p l r out room long e o =
    record { long = long; is = residue-table first (length l) k t (bytes l) r (bytes out) h room p e o }

module _ (first n k : ℕ) (w : Series) (small : k < 255) where
  pub residue-syndrome : (j : ℕ) → j < k → value k (residue first n k w) (root first j) ≡ syndrome first n w j
  unfolding residue
  residue-syndrome = interpolate-at k _ _ (roots_distinct first k small)

  -- from the first symbols of an array that holds it
  pub residue_array : (r : List ℕ) → k ≤ length r → bytes r ≡ residue first n k w → (j : ℕ) → j < k
      → syndrome first (length (take k r)) (bytes (take k r)) j ≡ syndrome first n w j
  residue_array r long e j h =
      ap (λ (m : ℕ). syndrome first m (bytes (take k r)) j) (length-take-le k r long)
      ∙ syndrome-is first k _ j
      ∙ value_cong k _ _ (root first j) (λ i l. read_take of 0 k r i l ∙ ap (λ (f : Series). f i) e)
      ∙ residue-syndrome j h

  pub residue-syndromes : (r : List ℕ) → k ≤ length r → bytes r ≡ residue first n k w
      → cut k (syndrome first (length (take k r)) (bytes (take k r))) ≡ cut k (syndrome first n w)
  residue-syndromes r long e = cut_cong k _ _ (residue_array r long e)

  pub residue-systematic : k ≤ n → w ⊞ residue first n k w ≡ systematic first n k w
  unfolding systematic upper
  residue-systematic room =
      ap (λ (f : Series). f ⊞ residue first n k w) (cut-drop k w)
      ∙ shape (cut k w) (upper k w) (residue first n k w)
      ∙ ap (λ (f : Series). f ⊞ upper k w)
      (check_symbols-is first n k w _ small (below-⊞ k _ _ (below-cut k w) (below-residue first n k w)) at-root)
    where
      shape : (a b c : Series) → a ⊞ b ⊞ c ≡ a ⊞ c ⊞ b
      shape a b c = simp ⊞-group

      low : (j : ℕ) → syndrome first n (cut k w) j ≡ value k (cut k w) (root first j)
      low j = syndrome-is first n _ j ∙ value-more k n _ (root first j) (below-cut k w) room

      at-root : (j : ℕ) → j < k
          → value k (cut k w ⊞ residue first n k w) (root first j) ≡ syndrome first n (upper k w) j
      at-root j h =
          value-⊞ k _ _ (root first j)
          ∙ ap₂ ◌⊕◌ (sym (low j))
          (residue-syndrome j h ∙ ap (λ (f : Series). syndrome first n f j) (cut-drop k w) ∙ syndrome-⊞ first n _ _ j)
          ∙ simp ⊕-group

-- by the k roots from number a on, the first of all being α^first
pub residue-from : (first a n k : ℕ) (w : Series) → k < 255 → (r : List ℕ) → k ≤ length r
    → bytes r ≡ residue (first + a) n k w → (j : ℕ) → a ≤ j → j < a + k
    → syndrome first (length (take k r)) (bytes (take k r)) j ≡ syndrome first n w j
residue-from first a n k w small r long e j low h =
    let at : a + (j - a) ≡ j = omega arith in
    rw at at (syndrome-from first a (length (take k r)) (bytes (take k r)) (j - a)
    ∙ residue_array (first + a) n k w small r long e (j - a) (omega arith)
    ∙ sym (syndrome-from first a n w (j - a)))
