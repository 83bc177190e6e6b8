-- Lists of symbols that are zero: found by the bits of their bytes, taken together.
--
--   Bits w i bits   what the bits of the first i values of the list w, taken together, tell
--
-- Proved: a loop that gathers the bits begins by bits-none, goes on by bits-more and ends by bits-all. The values of an
-- array are its series (read-entry), and where those of a part are zero, so are the array's there (zero-part).
use Rattle.std.specs.Prelude.{ℕ, ◌+◌, ◌-◌, ◌≤◌, ◌<◌, ◌≡◌, refl, ◌≢◌, ◌↔◌, IsTrue, nat_eq, List, map, length, get_or}
use Rattle.std.specs.Prelude.{take, drop as drop-list}
use Rattle.std.proofs.Common.{sym, ap, ap₂, ◌∙◌, arith, below_none, below_more, eqb-true}
use Rattle.std.proofs.Math.Path.{fun_ext}
use Rattle.std.proofs.Math.Logic.{by_cases}
use Rattle.std.proofs.Math.Decide.{dec_lt, ℕ_discrete}
use Rattle.std.proofs.Math.ListN.{get_or-map}
use Rattle.std.proofs.lemmas.Bool.{eq-eqb}
use Rattle.std.specs.Int.Bits.{bit_and, bit_or, or_add_and}
use Rattle.std.proofs.lemmas.Nat.{and_le_l, and_le_r}
use Rattle.field.specs.Field.{F, 𝟎, of, of_zero, of_nonzero}
use Rattle.series.specs.Series.{Series, O, O-at}
use Rattle.series.specs.Shift.{drop, drop_at, cut_low}
use Rattle.series.specs.Array.{read, read_at}
use Rattle.series.specs.Part.{read-part}
use Rattle.series.specs.Word.{entry, entry-is, entry_past}

pub record Bits (w : List F) (i bits : ℕ) : Type 0 where
  pub none : bits ≡ 0 → (j : ℕ) → j < i → entry w j ≡ 𝟎
  pub some : bits ≢ 0 → entry w ≢ O

pub bits-none : (w : List F) → Bits w 0 0
bits-none w = record { none = λ _. below_none _; some = λ h. absurd (h refl) }

pub bits-more : (w : List F) (i bits b : ℕ) → Bits w i bits → b < 256 → of b ≡ entry w i
    → Bits w (i + 1) (bit_or bits b)
bits-more w i bits b p small is =
    record {
      none = λ e. below_more _ i (p.none (both e).0) (sym is ∙ ap of (both e).1 ∙ of_zero);
      some = λ h. by_cases (ℕ_discrete bits 0)
          (λ z e. of_nonzero b small (λ x. h (ap₂ bit_or z x)) (is ∙ ap (λ (f : Series). f i) e ∙ O-at i)) p.some;
    }
  where
    both : bit_or bits b ≡ 0 → (bits ≡ 0) × (b ≡ 0)
    both e =
        let s : bit_or bits b + bit_and bits b ≡ bits + b = or_add_and bits b in
        let l : bit_and bits b ≤ bits = and_le_l bits b in
        let r : bit_and bits b ≤ b = and_le_r bits b in
        (omega arith, omega arith)

pub bits-all : {w : List F} {i bits : ℕ} → Bits w i bits → length w ≤ i → IsTrue (nat_eq bits 0) ↔ (entry w ≡ O)
bits-all {w} {i} {bits} p h = (
  λ e. fun_ext (λ j. by_cases (dec_lt j i) (p.none (eqb-true bits 0 e) j) (λ n. entry_past w j (omega arith))
      ∙ sym (O-at j)),
  λ e. by_cases (ℕ_discrete bits 0) (eq-eqb bits 0) (λ n. absurd (p.some n e)),
)

-- ---- arrays

module _ {A : Type 0} (m : A → F) (d : A) (z : m d ≡ 𝟎) where
  pub read-entry : (l : List A) → read m d l ≡ entry (map m l)
  read-entry l = fun_ext (λ i.
      read_at m d l i ∙ sym (entry-is (map m l) i ∙ ap (get_or (map m l) i) (sym z) ∙ get_or-map m l i d))

  pub zero-part : (l : List A) (a n k : ℕ) → a + n ≤ length l → entry (map m (take n (drop-list a l))) ≡ O
      → a ≤ k → k < a + n → read m d l k ≡ 𝟎
  zero-part l a n k h e p q =
      let f : k ≡ a + (k - a) = omega arith in
      ap (read m d l) f ∙ sym (drop_at a (read m d l) (k - a))
      ∙ sym (cut_low n (drop a (read m d l)) (k - a) (omega arith))
      ∙ ap (λ (g : Series). g (k - a)) (sym (read-part m d z a n l h) ∙ read-entry _ ∙ e) ∙ O-at (k - a)
