-- Laws of reading: the questions in their order, and what was located as an answer.
--
-- Proved: what reading comes to, by the first question that is answered by no (reading-short, reading-long,
-- reading_output, reading-symbols), or where none is (reading-bits); bytes that are 0 or 1 are bits (bits_of); the
-- answer from what was located (located-none, located-some).
use Rattle.std.specs.Prelude.{ℕ, zero, suc, ◌≤◌, ◌<◌, ◌≡◌, ◌≢◌, true, false, List, [], ◌∷◌, ltb, length, get_or}
use Rattle.std.specs.Prelude.{Some, None, Err}
use Rattle.std.proofs.Math.Path.{refl}
use Rattle.std.proofs.Common.{inl, inr, arith}
use Rattle.std.proofs.Math.Option.{none, some}
use borrow.Author.Tests.{ltb-true, lt-ltb, le-ltb, le-leb, lt-leb, eq-eqb, ne_eqb}
use Rattle.field.specs.Field.{F, val, of, of_zero, of_one}
use Rattle.series.specs.Series.{Series}
use Rattle.series.specs.Array.{bytes, read_at}
use Rattle.series.specs.Word.{word}
use Rattle.code.specs.Word.{syndrome}
use Rattle.binary.specs.declared.Refusal.TheVariants.{Length, OutputSize, NotBinary}
use Rattle.binary.specs.declared.locations.Locations.{Locations}
use Rattle.binary.specs.Definition.{Bit, Bits, answer, bits?, found, reading}
use Rattle.binary.specs.Changes.{Within, changed, Locates}
use Rattle.binary.specs.ChangesLaws.{answer-found, answer_missing}
use Rattle.binary.specs.Located.{both_true}

-- ---- the questions

module _ (y : List ℕ) (o : ℕ) where
  pub reading-short : length y ≡ 0 → reading y o ≡ Err Length
  unfolding reading
  reading-short h = rw (le-ltb 0 (length y) (omega arith)) refl

  pub reading-long : 255 < length y → reading y o ≡ Err Length
  unfolding reading
  reading-long h = rw (lt-ltb 0 (length y) (omega arith), lt-leb (length y) 255 h) refl

  module _ (some-symbol : 0 < length y) (most : length y ≤ 255) where
    pub reading_output : o ≢ length y → reading y o ≡ Err OutputSize
    unfolding reading
    reading_output h =
        rw (lt-ltb 0 (length y) some-symbol, le-leb (length y) 255 most, ne_eqb o (length y) h) refl

    module _ (room : o ≡ length y) where
      pub reading-symbols : bits? y ≡ false → reading y o ≡ Err NotBinary
      unfolding reading
      reading-symbols h =
          rw (lt-ltb 0 (length y) some-symbol, le-leb (length y) 255 most, eq-eqb o (length y) room, h) refl

      pub reading-bits : bits? y ≡ true → reading y o ≡ found (answer (length y) (bytes y))
      unfolding reading
      reading-bits h =
          rw (lt-ltb 0 (length y) some-symbol, le-leb (length y) 255 most, eq-eqb o (length y) room, h) refl

-- ---- bits

small-bit : (x : ℕ) → x < 2 → Bit (of x)
small-bit zero h = inl of_zero
small-bit (suc zero) h = inr of_one
small-bit (suc (suc x)) h = absurd (omega arith)

pub bits_of : (l : List ℕ) → bits? l ≡ true → Bits (length l) (bytes l)
bits_of l e p h = rw (read_at of 0 l p) (small-bit _ (go l e p h))
  where
    go : (l : List ℕ) → bits? l ≡ true → (p : ℕ) → p < length l → get_or l p 0 < 2
    go [] e p h = absurd (omega arith)
    go (x ∷ l) e zero h = ltb-true x 2 (both_true (ltb x 2) _ e).0
    go (x ∷ l) e (suc p) h = go l (both_true (ltb x 2) _ e).1 p (omega arith)

-- ---- what was located

module _ (n : ℕ) (y : Series) (hn : n ≤ 255) (b : Bits n y) (S0 S2 S4 : F) (is0 : S0 ≡ syndrome 1 n y 0)
    (is2 : S2 ≡ syndrome 1 n y 2) (is4 : S4 ≡ syndrome 1 n y 4) where
  pub located-none : Locates n S0 S2 S4 None → answer n y ≡ none
  located-none h = answer_missing n y hn b (rw (is0, is2, is4) at h)

  pub located-some : (l : Locations) → Locates n S0 S2 S4 (Some l)
      → (Within n (val l.0) × Within n (val l.1) × Within n (val l.2))
      × (answer n y ≡ some (word n (changed y (val l.0) (val l.1) (val l.2))))
  located-some l e =
      ((e.within_x, e.within_y, e.within_z), answer-found n y hn b _ _ _ (rw (is0, is2, is4) at e))
