-- Arrays of 49 coefficients and tables of 48 syndromes, as series.
--
--   poly l   the polynomial of an array of 49 coefficients
--   row l    a table of 48 syndromes: the sequence that it holds, then zeros
--
--   Clear f m n   coefficients m to n − 1 of f are zero
--
-- The first two cut what an array cannot hold, so that they have their degree whatever the list is.
--
-- Proved: a part that is zero is clear (clear-part, poly-clear), and past a clear end nothing is left (below_clear); a
-- product by zero is zero (none-⊠).
use Rattle.std.specs.Prelude.{ℕ, ◌+◌, ◌-◌, ◌≤◌, ◌<◌, ◌≡◌, Bool, true, List, map, length, get_or, take, drop, replicate}
use Rattle.std.proofs.Common.{sym, ap, ap₂, ◌∙◌, arith}
use Rattle.std.proofs.Math.Decide.{ℕ_discrete, dec_lt}
use Rattle.std.specs.Int.Bits.{bit_or, or_add_and}
use Rattle.std.proofs.lemmas.Nat.{and_le_l, and_le_r}
use Rattle.std.proofs.lemmas.List.{length-replicate}
use Rattle.field.specs.declared.Gf.{Gf}
use Rattle.field.specs.Field.{F, 𝟎, of, of_zero, val, val_of, val-zero, val-is-zero, is_zero, is_zero_true}
use Rattle.series.specs.Series.{Series, O, K, Z, ◌⊞◌, ◌⊠◌, K-zero, zero-⊠}
use Rattle.series.specs.Shift.{cut, cut_low, cut-none, cut_unique, cut-⊞, cut-K-⊠}
use Rattle.series.specs.Degree.{below, below-cut, below-cut_eq, below-K-⊠}
use Rattle.series.specs.Word.{entry}
use Rattle.kernel.specs.Symbol.{zero-part}
use Rattle.series.specs.Array.{bytes, values, read_at, read-zeros, below-read, below-values, Filled, filled-all}

unfoldable pub poly : List Gf → Series
poly l = cut 49 (values l)

unfoldable pub row : List Gf → Series
row l = cut 48 (values l)

pub below-poly : (l : List Gf) → below 49 (poly l)
unfolding poly
below-poly l = below-cut 49 (values l)

pub below_row : (l : List Gf) → below 48 (row l)
unfolding row
below_row l = below-cut 48 (values l)

pub poly-cut : (l : List Gf) (f : Series) → poly l ≡ f → poly l ≡ cut 49 f
poly-cut l f h = sym (below-cut_eq 49 (poly l) (below-poly l)) ∙ ap (cut 49) h

-- an array's entry
pub poly-at : (l : List Gf) (i : ℕ) → i < 49 → poly l i ≡ val (get_or l i (record { 0 = 0 }))
unfolding poly
poly-at l i h = cut_low 49 (values l) i h ∙ read_at val _ l i

pub row_at : (l : List Gf) (i : ℕ) → i < 48 → row l i ≡ val (get_or l i (record { 0 = 0 }))
unfolding row
row_at l i h = cut_low 48 (values l) i h ∙ read_at val _ l i

-- nothing is cut off an array
pub poly-values : (l : List Gf) → length l ≡ 49 → poly l ≡ values l
unfolding poly
poly-values l h = below-cut_eq 49 (values l) (below-values 49 l h)

pub row-values : (l : List Gf) → length l ≡ 48 → row l ≡ values l
unfolding row
row-values l h = below-cut_eq 48 (values l) (below-values 48 l h)

pub row-zeros : row (replicate {A = Gf} 48 (record { 0 = 0 })) ≡ O
row-zeros = row-values _ (length-replicate {A = Gf} 48 (record { 0 = 0 }))
    ∙ read-zeros val (record { 0 = 0 }) val-zero 48 O ∙ cut-none O

-- an array that is filled with f, past the last coefficient of f
pub poly-filled : {i : ℕ} {f : Series} {l : List Gf} (k : ℕ) → Filled 49 i f l → k ≤ i → below k f → poly l ≡ f
poly-filled {l = l} k p h b = poly-values l p.long ∙ filled-all k p h b

-- an array of its bytes
pub poly-bytes : (l : List Gf) (b : List ℕ) → length b ≡ 49
    → ((i : ℕ) → i < 49 → get_or b i 0 ≡ (get_or l i (record { 0 = 0 })).0) → bytes b ≡ poly l
unfolding poly
poly-bytes l b h e = sym (cut_unique 49 (values l) (bytes b)
    (λ i s. read_at val _ l i ∙ val_of _ ∙ ap of (sym (e i s)) ∙ sym (read_at of 0 b i))
    (λ i s. below-read of 0 of_zero b i (omega arith)))

-- a scalar that is zero, as the code tells
pub none-⊠ : (a : F) (f : Series) (z : Bool) → z ≡ is_zero a → z ≡ true → K a ⊠ f ≡ O
none-⊠ a f z e h = rw (is_zero_true a (sym e ∙ h), K-zero) (zero-⊠ f)

-- ---- coefficients that are zero

abbrev pub Clear : Series → ℕ → ℕ → Type 0
Clear f m n = (k : ℕ) → m ≤ k → k < n → f k ≡ 𝟎

pub below_clear : (m n : ℕ) (f : Series) → below n f → Clear f m n → below m f
below_clear m n f b h k l = go (dec_lt k n)
  where
    go : Dec (k < n) → f k ≡ 𝟎
    go (yes s) = h k l s
    go (no s) = b k (omega arith)

-- a part of an array that is zero
pub clear-part : (l : List Gf) (m n : ℕ) → m ≤ n → n ≤ length l → entry (map val (take (n - m) (drop m l))) ≡ O
    → Clear (values l) m n
clear-part l m n h b e k p q = zero-part val (record { 0 = 0 }) val-zero l m (n - m) k (omega arith) e p (omega arith)

-- one more, found by a disjunction of bits
pub clear-more : (f : Series) (g : Gf) (m i any : ℕ) → f i ≡ val g → (any ≡ 0 → Clear f m i) → bit_or any g.0 ≡ 0
    → Clear f m (i + 1)
clear-more f g m i any here h e k p q = go (ℕ_discrete k i)
  where
    left : any ≡ 0
    left = omega (arith, or_add_and any g.0, and_le_r any g.0)

    right : g.0 ≡ 0
    right = omega (arith, or_add_and any g.0, and_le_l any g.0)

    go : Dec (k ≡ i) → f k ≡ 𝟎
    go (yes s) = rw s (here ∙ val-is-zero g right)
    go (no s) = h left k p (omega arith)

pub poly-clear : (l : List Gf) (m n : ℕ) → length l ≡ 49 → m ≤ n → n ≤ 49
    → entry (map val (take (n - m) (drop m l))) ≡ O → Clear (poly l) m n
poly-clear l m n h a b e = rw (poly-values l h) (clear-part l m n a (omega arith) e)

-- f + a g and a f + b zg, of 49 coefficients each
pub cut-add : (a : F) (f g : Series) → below 49 f → f ⊞ K a ⊠ cut 49 g ≡ cut 49 (f ⊞ K a ⊠ g)
cut-add a f g h = sym (cut-⊞ 49 f _ ∙ ap₂ ◌⊞◌ (below-cut_eq 49 f h) (cut-K-⊠ 49 a g))

pub cut-update : (a b : F) (f g : Series) → below 49 f
    → K a ⊠ f ⊞ K b ⊠ cut 49 (Z ⊠ g) ≡ cut 49 (K a ⊠ f ⊞ K b ⊠ (Z ⊠ g))
cut-update a b f g h = cut-add b (K a ⊠ f) (Z ⊠ g) (below-K-⊠ 49 a f h)
