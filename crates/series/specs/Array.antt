-- Arrays as series: the values of their entries, then zeros.
--
--   values l     an array of `Gf`
--   bytes l      an array of bytes
--   read m d l   the general form: entries of any type, m gives the value of an entry, d is an entry with the
--                value zero
--
--   Filled n i f l   the array l of n entries holds the first i coefficients of f, then zeros
--
-- A loop that fills an array with f from the front keeps `Filled`: it begins with filled_none, goes on by filled_more,
-- and ends by filled-all.
use Rattle.std.specs.Prelude.{ℕ, zero, suc, ◌+◌, ◌≤◌, ◌<◌, ◌≡◌, refl, ◌≢◌, List, [], ◌∷◌, map, length, get_or, set}
use Rattle.std.specs.Prelude.{replicate}
use Rattle.std.proofs.Common.{sym, ap, ap₂, ◌∙◌, arith, length-set, get_or-set_same, get_or-set_other}
use Rattle.std.proofs.Math.Path.{fun_ext}
use Rattle.std.proofs.Math.Decide.{ℕ_discrete}
use Rattle.std.proofs.lemmas.List.{length-map, length-replicate}
use Rattle.std.proofs.Math.ListN.{get_or-eq_default, get_or-map}
use Rattle.field.specs.declared.Gf.{Gf}
use Rattle.field.specs.Field.{F, 𝟎, of, byte, of-byte, byte_of, of_zero, val, val-zero}
use Rattle.series.specs.Series.{Series, O-at}
use Rattle.series.specs.Shift.{cut, cut_low, cut_high, cut_unique, cut-none, cut-zero}
use Rattle.series.specs.Degree.{below, below_weaken, below-cut_eq}
use Rattle.series.specs.Word.{entry, word, entry-is, word-entry}

unfoldable pub read : {A : Type 0} → (A → F) → A → List A → Series
read m d l i = m (get_or l i d)

abbrev pub values : List Gf → Series
values = read val (record { 0 = 0 })

abbrev pub bytes : List ℕ → Series
bytes = read of 0

pub read_at : {A : Type 0} (m : A → F) (d : A) (l : List A) (i : ℕ) → read m d l i ≡ m (get_or l i d)
unfolding read
read_at m d l i = refl

module _ {A : Type 0} (m : A → F) (d : A) where
  pub read-set-same : (l : List A) (i : ℕ) (v : A) → i < length l → read m d (set l i v) i ≡ m v
  read-set-same l i v h = read_at m d (set l i v) i ∙ ap m (get_or-set_same l i v d h)

  pub read-set-other : (l : List A) (i k : ℕ) (v : A) → k ≢ i → read m d (set l i v) k ≡ read m d l k
  read-set-other l i k v h = read_at m d (set l i v) k ∙ ap m (get_or-set_other l i k v d h) ∙ sym (read_at m d l k)

  module _ (z : m d ≡ 𝟎) where
    pub below-read : (l : List A) → below (length l) (read m d l)
    below-read l i h = read_at m d l i ∙ ap m (get_or-eq_default l d h) ∙ z

    pub read-zeros : (n : ℕ) (f : Series) → read m d (replicate n d) ≡ cut 0 f
    read-zeros n f =
        fun_ext (λ i. read_at m d (replicate n d) i ∙ ap m (same n i) ∙ z ∙ sym (O-at i)) ∙ sym (cut-none f)
      where
        same : (n i : ℕ) → get_or (replicate n d) i d ≡ d
        same zero i = refl
        same (suc n) zero = refl
        same (suc n) (suc i) = same n i

  pub read_store : (l : List A) (i : ℕ) (v : A) (f : Series) → i < length l → read m d l ≡ cut i f → m v ≡ f i
      → read m d (set l i v) ≡ cut (i + 1) f
  read_store l i v f h e q = sym (cut_unique (i + 1) f _ (λ k l. low k l (ℕ_discrete k i)) high)
    where
      low : (k : ℕ) → k < i + 1 → Dec (k ≡ i) → f k ≡ read m d (set l i v) k
      low k r (yes s) = rw s (sym (read-set-same l i v h ∙ q))
      low k r (no s) = sym (read-set-other l i k v s ∙ ap (λ (g : Series). g k) e ∙ cut_low i f k (omega arith))

      high : (k : ℕ) → i + 1 ≤ k → read m d (set l i v) k ≡ 𝟎
      high k r = read-set-other l i k v (omega arith) ∙ ap (λ (g : Series). g k) e ∙ cut_high i f k (omega arith)

-- an array of bytes and the stored word of their values
pub bytes-entry : (l : List ℕ) → bytes l ≡ entry (map of l)
bytes-entry l = fun_ext (λ i. sym (entry-is (map of l) i ∙ ap (get_or (map of l) i) (sym of_zero) ∙ get_or-map of l i 0
    ∙ sym (read_at of 0 l i)))

-- ---- bytes of words

pub bytes_back : (l : List ℕ) → ((i : ℕ) → get_or l i 0 < 256) → map byte (map of l) ≡ l
bytes_back [] h = refl
bytes_back (x ∷ l) h = ap₂ ◌∷◌ (byte_of x (h 0)) (bytes_back l (λ i. h (suc i)))

-- the bytes of a stored word are those it came from
pub word_bytes : (n : ℕ) (l : List ℕ) → length l ≡ n → ((i : ℕ) → get_or l i 0 < 256) → map byte (word n (bytes l)) ≡ l
word_bytes n l e h =
    ap (map byte) (ap (word n) (bytes-entry l) ∙ word-entry n (map of l) (length-map l of ∙ e)) ∙ bytes_back l h

pub bytes_word : (w : List F) → bytes (map byte w) ≡ entry w
bytes_word w = bytes-entry (map byte w) ∙ ap entry (back w)
  where
    back : (w : List F) → map of (map byte w) ≡ w
    back [] = refl
    back (x ∷ w) = ap₂ ◌∷◌ (of-byte x) (back w)

-- ---- filling an array of `Gf` from the front

pub below-values : (n : ℕ) (l : List Gf) → length l ≡ n → below n (values l)
below-values n l h = rw h at (below-read val _ val-zero l)

pub record Filled (n i : ℕ) (f : Series) (l : List Gf) : Type 0 where
  pub long : length l ≡ n
  pub is : values l ≡ cut i f

pub filled_none : (n : ℕ) (f : Series) → Filled n 0 f (replicate n (record { 0 = 0 }))
filled_none n f = record { long = length-replicate n _; is = read-zeros val _ val-zero n f }

pub filled_more : {n i : ℕ} {f : Series} {l : List Gf} (v : Gf) → Filled n i f l → i < n → val v ≡ f i
    → Filled n (i + 1) f (set l i v)
filled_more {n} {i} {f} {l} v p h e =
    record { long = length-set l i v ∙ p.long; is = read_store val _ l i v f (omega (arith, p.long)) p.is e }

-- where f is zero the array stays as it is
pub filled_skip : {n i : ℕ} {f : Series} {l : List Gf} (j : ℕ) → Filled n i f l → f i ≡ 𝟎 → j ≡ i + 1 → Filled n j f l
filled_skip {n} {i} {f} {l} j p z e = rw e (record { long = p.long; is = p.is ∙ sym (cut-zero i f z) })

pub filled-all : {n i : ℕ} {f : Series} {l : List Gf} (k : ℕ) → Filled n i f l → k ≤ i → below k f → values l ≡ f
filled-all {n} {i} {f} {l} k p h b = p.is ∙ below-cut_eq i f (below_weaken k i f b h)
