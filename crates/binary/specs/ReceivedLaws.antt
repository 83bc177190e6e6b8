-- Laws of a received word: tables of powers, whether symbols are bits, and values.
--
--   powers_of x n y   the bytes of y, x y, x² y, .. , n of them
--   table_of x        those of the powers of x below 255, then 0
--   Masking w l p    the first p symbols of w are masks in l, which is zero from there on
--
-- Proved: that table is one of powers (table_of-at), and the field's own is that of α (power_table-of); the greatest
-- symbol tells whether all are bits (bits?-greatest); a byte that is a bit is below two (bit-small); masks one by one
-- (masking-none, masking-more, masking-all); one symbol more has its part in the value (part-more), and two parts are
-- all of it (value_parts).
use Rattle.std.specs.Prelude.{ℕ, zero, suc, ◌+◌, ◌*◌, ◌≤◌, ◌<◌, max, ◌≡◌, refl, Bool, true, false, ◌&&◌, List, [], ◌∷◌}
use Rattle.std.specs.Prelude.{◌++◌, ltb, length, get_or, set, replicate, fold}
use Rattle.std.proofs.Common.{sym, ap, ap₂, ◌∙◌, ⊎_elim, arith, add-one, ltb-true, ltb-false, lt-ltb, le-ltb}
use Rattle.std.proofs.Common.{length-set, get_or-set_same, get_or-set_other}
use Rattle.std.proofs.Math.Logic.{by_cases}
use Rattle.std.proofs.Math.Bool.{and-true, and_assoc}
use Rattle.std.proofs.Math.Decide.{ℕ_discrete, dec_lt}
use Rattle.std.specs.Int.Bits.{bit_xor, bit_and, and_zero_l}
use Rattle.std.proofs.lemmas.Nat.{and_comm, and_mask}
use Rattle.std.proofs.lemmas.List.{length-replicate}
use Rattle.std.proofs.Math.ListN.{get_or-append, get_or-eq_default}
use Rattle.field.specs.Field.{F, 𝟎, 𝟏, α, ◌⊕◌, ◌⊙◌, of, byte, pow, power_table, ⊙_assoc, ⊙-left_comm, ⊙-one, one-⊙}
use Rattle.field.specs.Field.{⊕-group, zero-⊙, of-byte, of_inj, of_xor, of_zero, of_one, pow-zero, pow-suc}
use Rattle.field.proofs.Field.{of_mod}
use Rattle.field.proofs.Field.{power_table-at}
use Rattle.series.specs.Value.{value, value_none, value-last, value-more}
use Rattle.series.specs.Array.{bytes, read_at, below-read}
use Rattle.binary.specs.Definition.{Bit, Bits, bits?}
use Rattle.binary.specs.Received.{PowersOf, Masks}

-- ---- tables of powers

unfoldable pub powers_of : F → ℕ → F → List ℕ
powers_of x zero y = []
powers_of x (suc n) y = byte y ∷ powers_of x n (x ⊙ y)

unfoldable pub table_of : F → List ℕ
table_of x = powers_of x 255 𝟏 ++ (0 ∷ [])

powers_of-at : (x : F) (n : ℕ) (y : F) (k : ℕ) → k < n → of (get_or (powers_of x n y) k 0) ≡ pow x k ⊙ y
unfolding powers_of
powers_of-at x zero y k h = absurd (omega arith)
powers_of-at x (suc n) y zero h = of-byte y ∙ sym (ap (λ (s : F). s ⊙ y) (pow-zero x) ∙ one-⊙ y)
powers_of-at x (suc n) y (suc k) h =
    powers_of-at x n (x ⊙ y) k (omega arith)
    ∙ ⊙-left_comm _ _ _ ∙ sym (⊙_assoc _ _ _) ∙ ap (λ (s : F). s ⊙ y) (sym (pow-suc x k))

length-powers_of : (x : F) (n : ℕ) (y : F) → length (powers_of x n y) ≡ n
unfolding powers_of
length-powers_of x zero y = refl
length-powers_of x (suc n) y = ap suc (length-powers_of x n (x ⊙ y))

pub table_of-at : (x : F) → PowersOf x (table_of x)
unfolding table_of
table_of-at x k h =
    ap of (get_or-append (powers_of x 255 𝟏) (0 ∷ []) 0 k (omega (arith, length-powers_of x 255 𝟏)))
    ∙ powers_of-at x 255 𝟏 k h ∙ ⊙-one (pow x k)

pub power_table-of : PowersOf α power_table
power_table-of k h = ap of (power_table-at k h) ∙ of-byte (pow α k)

-- ---- whether symbols are bits

ltb-max : (m x n : ℕ) → ltb (max m x) n ≡ ltb m n && ltb x n
ltb-max m x n = go (ltb m n) (ltb x n) refl refl
  where
    go : (a b : Bool) → ltb m n ≡ a → ltb x n ≡ b → ltb (max m x) n ≡ a && b
    go true true d e = lt-ltb _ n (omega (arith, ltb-true, d, e))
    go true false d e = le-ltb _ n (omega (arith, ltb-false, e))
    go false b d e = le-ltb _ n (omega (arith, ltb-false, d))

pub bit-small : (x : ℕ) → x < 256 → Bit (of x) → x < 2
bit-small x h =
    ⊎_elim (λ z. let e = of_inj x 0 h (omega arith) (z ∙ sym of_zero) in omega (arith, e))
    (λ z. let e = of_inj x 1 h (omega arith) (z ∙ sym of_one) in omega (arith, e))

-- the greatest symbol tells
pub bits?-greatest : (l : List ℕ) → ltb (fold max 0 l) 2 ≡ bits? l
bits?-greatest l = go 0 l
  where
    go : (m : ℕ) (l : List ℕ) → ltb (fold max m l) 2 ≡ ltb m 2 && bits? l
    go m [] = sym (and-true (ltb m 2))
    go m (x ∷ l) =
        go (max m x) l ∙ ap (λ b. b && bits? l) (ltb-max m x 2) ∙ and_assoc (ltb m 2) (ltb x 2) (bits? l)

-- ---- masks

-- the first p symbols of w are masks in l, which is zero from there on
pub record Masking (w l : List ℕ) (p : ℕ) : Type 0 where
  pub long : length l ≡ 256
  pub done : (k : ℕ) → k < p → get_or l k 0 ≡ get_or w k 0 * 255
  pub left : (k : ℕ) → p ≤ k → get_or l k 0 ≡ 0

pub masking-none : (w : List ℕ) → Masking w (replicate 256 zero) 0
masking-none w = record {
  long = length-replicate 256 zero;
  done = λ k h. absurd (omega arith);
  left = λ k h. zeros 256 k;
}
  where
    zeros : (n k : ℕ) → get_or (replicate n zero) k zero ≡ zero
    zeros zero k = refl
    zeros (suc n) zero = refl
    zeros (suc n) (suc k) = zeros n k

pub masking-more : {w l : List ℕ} {p : ℕ} (v : ℕ) → Masking w l p → p < 256 → v ≡ get_or w p 0 * 255
    → Masking w (set l p v) (p + 1)
masking-more {w} {l} {p} v m h e = record {
  long = length-set l p v ∙ m.long;
  done = λ k b. by_cases (ℕ_discrete k p)
      (λ s. rw s (get_or-set_same l p v 0 (omega (arith, m.long)) ∙ e))
      (λ s. get_or-set_other l p k v 0 s ∙ m.done k (omega arith));
  left = λ k b. get_or-set_other l p k v 0 (omega arith) ∙ m.left k (omega arith);
}

pub masking-all : (w l : List ℕ) → ((k : ℕ) → get_or w k 0 < 256) → length w ≤ 255 → Bits (length w) (bytes w)
    → Masking w l (length w) → Masks w l
masking-all w l small h b m = record {
  short = h;
  bit = λ p. by_cases (dec_lt p (length w))
      (λ k. bit-small _ (small p) (rw (read_at of 0) at (b p k)))
      (λ k. let z = past p (omega arith) in omega (arith, z));
  mask = λ p _. by_cases (dec_lt p (length w))
      (λ k. m.done p k)
      (λ k. let z = past p (omega arith) in let y = m.left p (omega arith) in omega (arith, z, y));
}
  where
    past : (p : ℕ) → length w ≤ p → get_or w p 0 ≡ 0
    past p k = get_or-eq_default w 0 k

-- ---- the value of a word from its masks and a table

masked : (b t : ℕ) → b < 2 → of (bit_and (b * 255) t) ≡ of b ⊙ of t
masked zero t h = rw (and_zero_l, of_zero) (sym (zero-⊙ (of t)))
masked (suc zero) t h = ap of (and_comm 255 t ∙ and_mask t 8) ∙ of_mod t ∙ rw of_one (sym (one-⊙ (of t)))
masked (suc (suc b)) t h = absurd (omega arith)

module _ (w l table : List ℕ) (x : F) (m : Masks w l) (t : PowersOf x table) where
  -- the part from a on
  pub part-more : (a p s : ℕ) → p < 256 → of s ≡ value p (bytes w) x ⊕ value a (bytes w) x
      → of (bit_xor s (bit_and (get_or l p 0) (get_or table p 0))) ≡ value (p + 1) (bytes w) x ⊕ value a (bytes w) x
  part-more a p s h e =
      of_xor s _ ∙ ap₂ ◌⊕◌ e term ∙ rw (add-one, value-last p _ x) (simp ⊕-group)
    where
      product : of (bit_and (get_or l p 0) (get_or table p 0)) ≡ bytes w p ⊙ of (get_or table p 0)
      product =
          ap (λ k. of (bit_and k (get_or table p 0))) (m.mask p h)
          ∙ masked (get_or w p 0) (get_or table p 0) (m.bit p)
          ∙ ap (λ (s : F). s ⊙ of (get_or table p 0)) (sym (read_at of 0 w p))

      -- past the last position there is no symbol
      term : of (bit_and (get_or l p 0) (get_or table p 0)) ≡ bytes w p ⊙ pow x p
      term = by_cases (dec_lt p 255) (λ k. product ∙ ap (λ s. bytes w p ⊙ s) (t p k)) (λ k.
          let z : bytes w p ≡ 𝟎 = below-read of 0 of_zero w p (omega (arith, m.short)) in
          product ∙ rw z (zero-⊙ _ ∙ sym (zero-⊙ _)))

  value-all : value 256 (bytes w) x ≡ value (length w) (bytes w) x
  value-all = value-more (length w) 256 (bytes w) x (below-read of 0 of_zero w) (omega (arith, m.short))

  -- two parts
  pub value_parts : (a b : ℕ) → of a ≡ value 128 (bytes w) x ⊕ value 0 (bytes w) x
      → of b ≡ value 256 (bytes w) x ⊕ value 128 (bytes w) x → of (bit_xor a b) ≡ value (length w) (bytes w) x
  value_parts a b d e =
      of_xor a b ∙ ap₂ ◌⊕◌ d e ∙ rw value_none (simp ⊕-group) ∙ value-all
