-- Stores into arrays of bytes, as equations of series.
--
-- Proved: a store at j adds one term at z^j (bytes-set, bytes-add). A loop that writes g after the last coefficient of
-- f, or adds a multiple of g, goes on by one coefficient (append-more, multiple-more), and what stands before is kept
-- (append-low); once all are added, so is the whole (multiple-all). A word that is multiplied in place gets a multiple
-- of itself added (scaled-more, scaled-all). The first coefficients of a series are found by what they are (cut_cong)
-- and in two parts (cut-join).
use Rattle.std.specs.Prelude.{ℕ, ◌+◌, ◌≤◌, ◌<◌, ◌≡◌, List, length, get_or, set}
use Rattle.std.proofs.Common.{sym, ap, ap₂, ◌∙◌, add-one, arith}
use Rattle.std.proofs.Math.Path.{fun_ext}
use Rattle.std.proofs.Math.Decide.{ℕ_discrete}
use Rattle.std.specs.Int.Bits.{bit_xor}
use Rattle.field.specs.Field.{F, 𝟎, 𝟏, ◌⊕◌, ◌⊙◌, of, of_zero, of_xor, zero-⊕, ⊕-zero, ⊕_self-left, ⊙-zero, ⊙-ring}
use Rattle.series.specs.Series.{Series, K, ◌⊞◌, ◌⊠◌, ⊞-at, K-⊠-at, K-⊕, ⊠-ring}
use Rattle.series.specs.Shift.{zpow, drop, cut, zpow-add, zpow-at, zpow-low, zpow-one, zpow-other, drop_at}
use Rattle.series.specs.Shift.{cut_low, cut_high, cut-none, cut-suc, cut_unique, cut-drop}
use Rattle.series.specs.Degree.{below, below_weaken, below-cut_eq}
use Rattle.series.specs.Array.{bytes, below-read, read_at, read-set-same, read-set-other}

pub bytes-set : (l : List ℕ) (j v : ℕ) → j < length l → bytes (set l j v) ≡ bytes l ⊞ K (bytes l j ⊕ of v) ⊠ zpow j
bytes-set l j v h = fun_ext (λ i.
    go i (ℕ_discrete i j) ∙ sym (⊞-at (bytes l) _ i ∙ ap (λ (s : F). bytes l i ⊕ s) (K-⊠-at _ (zpow j) i)))
  where
    go : (i : ℕ) → Dec (i ≡ j) → bytes (set l j v) i ≡ bytes l i ⊕ (bytes l j ⊕ of v) ⊙ zpow j i
    go i (yes e) = rw (e, zpow-one) (read-set-same of 0 l j v h ∙ simp ⊙-ring)
    go i (no e) = rw (zpow-other j i e) (read-set-other of 0 l j i v e ∙ simp ⊙-ring)

pub bytes-xor : (l : List ℕ) (i y : ℕ) → of (bit_xor (get_or l i 0) y) ≡ bytes l i ⊕ of y
bytes-xor l i y = of_xor _ y ∙ ap (λ (s : F). s ⊕ of y) (sym (read_at of 0 l i))

-- a term added to an entry
pub bytes-add : (l : List ℕ) (j v : ℕ) (s : F) → j < length l → of v ≡ bytes l j ⊕ s
    → bytes (set l j v) ≡ bytes l ⊞ K s ⊠ zpow j
bytes-add l j v s h e =
    bytes-set l j v h ∙ ap (λ (t : F). bytes l ⊞ K t ⊠ zpow j) (ap (λ (t : F). bytes l j ⊕ t) e ∙ ⊕_self-left _ s)

pub append-none : (a : ℕ) (f g : Series) → f ≡ f ⊞ zpow a ⊠ cut 0 g
append-none a f g = rw cut-none (simp ⊠-ring)

-- g added from position a on
pub add-more : (l : List ℕ) (a i v : ℕ) (f g : Series) → a + i < length l → bytes l ≡ f ⊞ zpow a ⊠ cut i g
    → of v ≡ bytes l (a + i) ⊕ g i
    → bytes (set l (a + i) v) ≡ f ⊞ zpow a ⊠ cut (i + 1) g
add-more l a i v f g h e q = bytes-add l (a + i) v (g i) h q ∙ rw (e, zpow-add a i, add-one, cut-suc i g) (simp ⊠-ring)

-- g written there, where nothing stood
pub append-more : (l : List ℕ) (a i v : ℕ) (f g : Series)
    → a + i < length l → below a f → bytes l ≡ f ⊞ zpow a ⊠ cut i g → of v ≡ g i
    → bytes (set l (a + i) v) ≡ f ⊞ zpow a ⊠ cut (i + 1) g
append-more l a i v f g h b e q =
    add-more l a i v f g h e (q ∙ sym (ap (λ (t : F). t ⊕ g i) none ∙ zero-⊕ (g i)))
  where
    none : bytes l (a + i) ≡ 𝟎
    none = ap (λ (t : Series). t (a + i)) e
        ∙ rw (⊞-at, b (a + i) (omega arith), zpow-at, cut_high i g i (omega arith)) (zero-⊕ 𝟎)

pub append-low : (l : List ℕ) (a i : ℕ) (f g : Series) → i < a → bytes l ≡ f ⊞ zpow a ⊠ g → bytes l i ≡ f i
append-low l a i f g h e = ap (λ (t : Series). t i) e ∙ rw (⊞-at, zpow-low a g i h) (⊕-zero (f i))

pub multiple-none : (a : F) (f g : Series) → f ≡ f ⊞ K a ⊠ cut 0 g
multiple-none a f g = rw cut-none (simp ⊠-ring)

pub multiple-more : (l : List ℕ) (i v : ℕ) (a : F) (f g : Series) → i < length l → bytes l ≡ f ⊞ K a ⊠ cut i g
    → of v ≡ bytes l i ⊕ a ⊙ g i
    → bytes (set l i v) ≡ f ⊞ K a ⊠ cut (i + 1) g
multiple-more l i v a f g h e q = bytes-add l i v (a ⊙ g i) h q ∙ rw (e, add-one, cut-suc i g) (simp ⊠-ring)

pub multiple-all : (i : ℕ) (a : F) (f : Series) (l : List ℕ) → length l ≤ i
    → f ⊞ K a ⊠ cut i (bytes l) ≡ f ⊞ K a ⊠ bytes l
multiple-all i a f l h =
    ap (λ (g : Series). f ⊞ K a ⊠ g)
    (below-cut_eq i _ (below_weaken (length l) i _ (below-read of 0 of_zero l) h))

-- ---- a word multiplied in place: c g is g and (c + 1) g

pub scaled-more : (l : List ℕ) (i v : ℕ) (c : F) (g : Series) → i < length l → bytes l ≡ g ⊞ K (c ⊕ 𝟏) ⊠ cut i g
    → of v ≡ c ⊙ bytes l i
    → bytes (set l i v) ≡ g ⊞ K (c ⊕ 𝟏) ⊠ cut (i + 1) g
scaled-more l i v c g h e q =
    multiple-more l i v (c ⊕ 𝟏) g g h e (q ∙ rw here (shape c (g i)))
  where
    here : bytes l i ≡ g i
    here = ap (λ (f : Series). f i) e
        ∙ rw (⊞-at, K-⊠-at, cut_high i g i (omega arith), ⊙-zero) (⊕-zero (g i))

    shape : (c s : F) → c ⊙ s ≡ s ⊕ (c ⊕ 𝟏) ⊙ s
    shape c s = simp ⊙-ring

pub scaled-all : (i : ℕ) (c : F) (l : List ℕ) → length l ≤ i → bytes l ⊞ K (c ⊕ 𝟏) ⊠ cut i (bytes l) ≡ K c ⊠ bytes l
scaled-all i c l h = multiple-all i (c ⊕ 𝟏) (bytes l) l h ∙ rw K-⊕ (simp ⊠-ring)

-- ---- the first coefficients

pub cut_cong : (n : ℕ) (f g : Series) → ((i : ℕ) → i < n → f i ≡ g i) → cut n f ≡ cut n g
cut_cong n f g e = cut_unique n f (cut n g) (λ i l. e i l ∙ sym (cut_low n g i l)) (cut_high n g)

pub cut-join : (m n : ℕ) (f : Series) → cut (m + n) f ≡ cut m f ⊞ zpow m ⊠ cut n (drop m f)
cut-join m n f = cut-drop m (cut (m + n) f) ∙ ap₂ (λ (s t : Series). s ⊞ zpow m ⊠ t) low (sym high)
  where
    low : cut m (cut (m + n) f) ≡ cut m f
    low = cut_cong m _ f (λ i l. cut_low (m + n) f i (omega arith))

    high : cut n (drop m f) ≡ drop m (cut (m + n) f)
    high =
        cut_unique n (drop m f) _
        (λ i l. drop_at m f i ∙ sym (drop_at m (cut (m + n) f) i ∙ cut_low (m + n) f (m + i) (omega arith)))
        (λ i l. drop_at m (cut (m + n) f) i ∙ cut_high (m + n) f (m + i) (omega arith))
