-- The encoder of one word: what the remainder by the generator holds at the top is the check symbols.
--
-- Proved: the last k of 48 symbols have room in the first k of a word (room); copied there from the remainder, they
-- make the systematic word (encoded).
use Rattle.std.specs.Prelude.{ℕ, ◌-◌, ◌≤◌, ◌≡◌, refl, List, ◌++◌, length, take, drop as drop-list}
use Rattle.std.proofs.Common.{sym, ◌∙◌, ap, ap₂, arith, length-drop, length-take-le}
use Rattle.field.specs.Field.{of, of_zero}
use Rattle.series.specs.Series.{Series, ◌⊞◌, ◌⊠◌, ⊞-group}
use Rattle.series.specs.Shift.{zpow, drop, cut, cut-⊞, cut-drop}
use Rattle.series.specs.Array.{bytes}
use Rattle.series.specs.Part.{read-part}
use Rattle.kernel.specs.Copy.{front}
use Rattle.divider.specs.DivisionRemainder.{remainder}
use Rattle.divider.specs.Multiples.{rows, lower}
use Rattle.divider.specs.GeneratorTable.{Table}
use Rattle.code.specs.Word.{systematic}
use Rattle.divider.specs.ReedSolomonResidue.{residue-table, residue-systematic}

-- the last k of the 48 symbols of a remainder
top-length : (k : ℕ) (checks : List ℕ) → k ≤ 48 → length checks ≡ 48
    → length (take (48 - (48 - k)) (drop-list (48 - k) checks)) ≡ k
top-length k checks h long =
    length-take-le (48 - (48 - k)) (drop-list (48 - k) checks) (omega (arith, length-drop (48 - k) checks))
    ∙ omega arith

pub room : (k : ℕ) (checks word : List ℕ) → k ≤ 48 → k ≤ length word → length checks ≡ 48
    → length (take k word) ≡ length (take (48 - (48 - k)) (drop-list (48 - k) checks))
room k checks word h l long = length-take-le k word l ∙ sym (top-length k checks h long)

front-all : (first n k : ℕ) (t : List ℕ) (w r : Series) → k ≤ 48 → k ≤ n → Table first k t
    → r ≡ remainder (lower (rows k) t) (n - k) (drop k w)
    → cut k (drop (48 - k) r) ⊞ zpow k ⊠ drop k w ≡ systematic first n k w
front-all first n k t w r h l p e =
    shape (cut k w) _ _
    ∙ ap₂ ◌⊞◌ (sym (cut-drop k w)) (sym (cut-⊞ k w _) ∙ residue-table first n k t w r _ h l p e refl)
    ∙ residue-systematic first n k w (omega arith) l
  where
    shape : (a b c : Series) → b ⊞ c ≡ a ⊞ c ⊞ (a ⊞ b)
    shape a b c = simp ⊞-group

pub encoded : (first k : ℕ) (t checks y word : List ℕ) → k ≤ 48 → k ≤ length word → Table first k t
    → length checks ≡ 48
    → bytes checks ≡ remainder (lower (rows k) t) (length word - k) (drop k (bytes word))
    → y ≡ take (48 - (48 - k)) (drop-list (48 - k) checks)
    → bytes (y ++ drop-list k word) ≡ systematic first (length word) k (bytes word)
encoded first k t checks y word h l p long e copied =
    front k y word (drop (48 - k) (bytes checks)) (ap length copied ∙ top-length k checks h long)
    (ap bytes copied ∙ top)
    ∙ front-all first (length word) k t (bytes word) (bytes checks) h l p e
  where
    top : bytes (take (48 - (48 - k)) (drop-list (48 - k) checks)) ≡ cut k (drop (48 - k) (bytes checks))
    top =
        let all : 48 - (48 - k) ≡ k = omega arith in
        read-part of 0 of_zero (48 - k) (48 - (48 - k)) checks (omega (arith, long))
        ∙ ap (λ (n : ℕ). cut n (drop (48 - k) (bytes checks))) all
