-- What is written of one subword.
--
--   filled f n k d e   e plus the Reed-Solomon word of n symbols, k of them check symbols, of the data d plus e, the
--                      first root being α^f
--   Placed k q d e w   the first q symbols of d, with e added, stand in w from position k on
--   Wrote p d i s t    the block t is the block s with subword i written, d being its data
use Rattle.std.specs.Prelude.{ℕ, suc, ◌+◌, ◌*◌, ◌≤◌, ◌<◌, ◌≡◌, List, length, set, take}
use Rattle.std.proofs.Common.{sym, ap, ap₂, ◌∙◌, suc-mul, mul-le-mul_right, arith}
use Rattle.std.proofs.Math.Path.{fun_ext}
use Rattle.std.proofs.Math.Decide.{dec_lt, ℕ_discrete}
use Rattle.field.specs.Field.{𝟎, ◌⊕◌, ⊕-zero, of, of_zero}
use Rattle.series.specs.Series.{Series, ◌⊞◌, ◌⊠◌, ⊞-at}
use Rattle.series.specs.Shift.{zpow, drop, cut, drop_at, drop-⊞, drop-zpow}
use Rattle.series.specs.Degree.{below-cut, below-cut_eq}
use Rattle.series.specs.Interpolation.{interpolate}
use Rattle.series.specs.Array.{bytes, read-set-same, read-set-other, below-read}
use Rattle.series.specs.Part.{splice, splice-inside, splice-after, read_prefix}
use Rattle.profile.specs.declared.Profile.{Profile}
use Rattle.profile.specs.Definition.{first-root, checks}
use Rattle.code.specs.Word.{root, syndrome, systematic, check_symbols, upper}
use Rattle.code.specs.Definition.{subword}
use Rattle.code.specs.Block.{Agree}
use Rattle.code.specs.Triangle.{carried}

unfoldable pub filled : ℕ → ℕ → ℕ → Series → Series → Series
filled f n k d e = systematic f n k (zpow k ⊠ d ⊞ e) ⊞ e

-- ---- one word

-- the first q data symbols, with e added, stand from position k on
pub Placed : ℕ → ℕ → List ℕ → List ℕ → List ℕ → Type 0
Placed k q d e w = (i : ℕ) → i < q → bytes w (k + i) ≡ bytes d i ⊕ bytes e (k + i)

pub placed-none : (k : ℕ) (d e w : List ℕ) → Placed k 0 d e w
unfolding Placed
placed-none k d e w i h = absurd (omega arith)

pub placed-more : (k q v : ℕ) (d e w : List ℕ)
    → k + q < length w → of v ≡ bytes d q ⊕ bytes e (k + q) → Placed k q d e w
    → Placed k (q + 1) d e (set w (k + q) v)
unfolding Placed
placed-more k q v d e w h ev p i l = go (ℕ_discrete i q)
  where
    go : Dec (i ≡ q) → bytes (set w (k + q) v) (k + i) ≡ bytes d i ⊕ bytes e (k + i)
    go (yes s) = rw s (read-set-same of 0 w (k + q) v h ∙ ev)
    go (no s) = read-set-other of 0 w (k + q) (k + i) v (λ f. s (omega arith)) ∙ p i (omega arith)

pub placed-all : (k q : ℕ) (d e w : List ℕ)
    → length d ≤ q → length w ≡ k + length d → length e ≡ length w → Placed k q d e w
    → drop k (bytes w) ≡ bytes d ⊞ drop k (bytes e)
unfolding Placed
placed-all k q d e w h lw le p = fun_ext (λ i.
    drop_at k _ i ∙ go i (dec_lt i (length d)) ∙ sym (⊞-at _ _ i ∙ ap (λ t. bytes d i ⊕ t) (drop_at k _ i)))
  where
    past : (l : List ℕ) (i : ℕ) → length l ≤ i → bytes l i ≡ 𝟎
    past l i = below-read of 0 of_zero l i

    go : (i : ℕ) → Dec (i < length d) → bytes w (k + i) ≡ bytes d i ⊕ bytes e (k + i)
    go i (yes l) = p i (omega arith)
    go i (no l) = past w (k + i) (omega arith)
        ∙ sym (ap₂ ◌⊕◌ (past d i (omega arith)) (past e (k + i) (omega arith)) ∙ ⊕-zero 𝟎)

-- check symbols depend on what stands from position k on
systematic-drop : (f n k : ℕ) (v w : Series) → drop k v ≡ drop k w → systematic f n k v ≡ systematic f n k w
unfolding systematic check_symbols upper
systematic-drop f n k v w h =
    ap (λ (u : Series). interpolate k (root f) (syndrome f n (zpow k ⊠ u)) ⊞ zpow k ⊠ u) h

-- the data with e added are placed, the check symbols found, e is added
pub filled_is : (f k : ℕ) (d e w a s r : List ℕ) → length a ≡ length w
    → drop k (bytes a) ≡ bytes d ⊞ drop k (bytes e)
    → bytes s ≡ systematic f (length a) k (bytes a)
    → bytes r ≡ bytes s ⊞ bytes e
    → bytes r ≡ filled f (length w) k (bytes d) (bytes e)
unfolding filled
filled_is f k d e w a s r la ea es er =
    er
    ∙ ap (λ (u : Series). u ⊞ bytes e)
    (es ∙ systematic-drop f (length a) k _ (zpow k ⊠ bytes d ⊞ bytes e) same
    ∙ ap (λ n. systematic f n k (zpow k ⊠ bytes d ⊞ bytes e)) la)
  where
    same : drop k (bytes a) ≡ drop k (zpow k ⊠ bytes d ⊞ bytes e)
    same = ea ∙ ap (λ (u : Series). u ⊞ drop k (bytes e)) (sym (drop-zpow k (bytes d))) ∙ sym (drop-⊞ k _ _)

-- ---- one subword

-- subword i was written, d being its data
pub record Wrote (p : Profile) (d : Series) (i : ℕ) (old new : Series) : Type 0 where
  pub here : (q : ℕ) → q < p.length
      → subword p.length new i q
      ≡ filled (first-root p) p.length (checks p i) d (cut p.length (carried p old i)) q
  pub above : Agree p (suc i) old new

-- the part of the block that subword i is, filled, k and n being the numbers that the code has
pub wrote-is : (p : Profile) (i k l m : ℕ) (d : Series) (s y c : List ℕ) → i * p.length + p.length ≤ length s
    → k ≡ checks p i → l ≡ p.length → m ≡ p.length → length y ≡ p.length → p.length ≤ length c
    → bytes c ≡ cut p.length (carried p (bytes s) i)
    → bytes y ≡ filled (first-root p) l k d (bytes (take p.length c))
    → Wrote p d i (bytes s) (bytes (splice (i * p.length) m y s))
unfolding subword
wrote-is p i k l m d s y c hs ek el em ly lc ec ey = record { here = here; above = above }
  where
    f : ℕ
    f = first-root p

    n : ℕ
    n = p.length

    carry : bytes (take n c) ≡ cut n (carried p (bytes s) i)
    carry = read_prefix of 0 of_zero n c lc ∙ ap (cut n) ec ∙ below-cut_eq n _ (below-cut n _)

    is : bytes y ≡ filled f n (checks p i) d (cut n (carried p (bytes s) i))
    is = ey ∙ ap₂ (λ l k. filled f l k d (bytes (take n c))) el ek ∙ ap (filled f n (checks p i) d) carry

    here : (q : ℕ) → q < n
        → bytes (splice (i * n) m y s) (i * n + q) ≡ filled f n (checks p i) d (cut n (carried p (bytes s) i)) q
    here q h = splice-inside of 0 (i * n) m y s (omega arith) (ly ∙ sym em) q (omega arith)
        ∙ ap (λ (u : Series). u q) is

    above : (j : ℕ) → suc i ≤ j → j < p.subwords → (q : ℕ) → q < n
        → bytes s (j * n + q) ≡ bytes (splice (i * n) m y s) (j * n + q)
    above j h u q v =
        let e : suc i * n ≤ j * n = mul-le-mul_right n h in
        sym (splice-after of 0 (i * n) m y s (omega arith) (ly ∙ sym em) (j * n + q)
        (omega (arith, e, suc-mul i n, em)))
