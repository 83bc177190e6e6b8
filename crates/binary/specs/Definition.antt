-- Binary subwords of capability 3, and what reading one comes to: FORMAT 11. The first root is α.
--
--   Bit x            x is zero or one; Bits n y: the first n symbols of y are
--   Fits n y w       the word w answers y: its symbols are bits, at most three differ from y's, and it is in the code
--                    of capability 3
--   answer n y       the word that fits; none if there is none
--   number_of q      the number of a refusal; answer_number a: 0, or that of the refusal
--   Read             what reading comes to: the word that is answered, or a refusal
--   bits? y          whether the bytes y are 0 or 1
--   asked b q r      r, unless the question b is answered by no
--   reading y o      what reading the bytes y into an output of o bytes comes to: the questions, then the answer
--   answer_to r      what is answered
--   word_in r o      what the output holds in the end, o being what it held
use Rattle.std.specs.Prelude.{ℕ, ◌≤◌, ◌<◌, ◌≡◌, ◌⊎◌, Bool, true, cond, ◌&&◌, List, [], ◌∷◌, map, leb, ltb, eqb, length}
use Rattle.std.specs.Prelude.{Result, Ok, Err}
use Rattle.std.proofs.Common.{inl, inr, ⊎_elim}
use Rattle.std.proofs.Math.Logic.Dec
use Rattle.std.proofs.Math.Option.{Option, none, some}
use Rattle.std.proofs.Math.Decide.{dec_le}
use Rattle.field.specs.Field.{F, 𝟎, 𝟏, ◌≟◌, byte}
use Rattle.series.specs.Series.{Series, ◌⊞◌}
use Rattle.series.specs.Array.{bytes}
use Rattle.series.specs.Decide.{all?}
use Rattle.series.specs.Word.{entry, weight}
use Rattle.series.specs.First.{first}
use Rattle.code.specs.Word.{syndrome, InCode}
use Rattle.binary.specs.declared.Refusal.{Refusal}
use Rattle.binary.specs.declared.Refusal.TheVariants.{Length, OutputSize, NotBinary, Uncorrectable}

-- ---- what is answered

abbrev pub Bit : F → Type 0
Bit x = (x ≡ 𝟎) ⊎ (x ≡ 𝟏)

unfoldable pub bit? : (x : F) → Dec (Bit x)
bit? x = go (x ≟ 𝟎) (x ≟ 𝟏)
  where
    go : Dec (x ≡ 𝟎) → Dec (x ≡ 𝟏) → Dec (Bit x)
    go (yes e) d = yes (inl e)
    go (no e) (yes d) = yes (inr d)
    go (no e) (no d) = no (⊎_elim e d)

abbrev pub Bits : ℕ → Series → Type 0
Bits n y = (p : ℕ) → p < n → Bit (y p)

-- FORMAT 11.2
pub record Fits (n : ℕ) (y w : Series) : Type 0 where
  pub bits : Bits n w
  pub near : weight n (w ⊞ y) ≤ 3
  pub code : InCode 1 n 3 w

unfoldable pub fits? : (n : ℕ) (y w : Series) → Dec (Fits n y w)
fits? n y w =
    Dec.of_iff (to, from) (Dec.and (all? n (λ p. bit? (w p)))
    (Dec.and (dec_le (weight n (w ⊞ y)) 3) (all? 6 (λ j. syndrome 1 n w j ≟ 𝟎))))
  where
    to : Bits n w × ((weight n (w ⊞ y) ≤ 3) × InCode 1 n 3 w) → Fits n y w
    to (b, (l, c)) = record { bits = b; near = l; code = c }

    from : Fits n y w → Bits n w × ((weight n (w ⊞ y) ≤ 3) × InCode 1 n 3 w)
    from x = (x.bits, (x.near, x.code))

unfoldable pub answer : ℕ → Series → Option (List F)
answer n y = first n (λ w. fits? n y (entry w))

-- ---- the questions, FORMAT 11.3

abbrev pub number_of : Refusal → ℕ
number_of Length = 5
number_of OutputSize = 7
number_of NotBinary = 16
number_of Uncorrectable = 17

-- 0 says that every question was answered by yes
abbrev pub answer_number : Result (Unit {0}) Refusal → ℕ
answer_number (Ok done) = 0
answer_number (Err q) = number_of q

-- what reading comes to
abbrev pub Read : Type 0
Read = Result (List F) Refusal

abbrev pub bits? : List ℕ → Bool
bits? [] = true
bits? (x ∷ l) = ltb x 2 && bits? l

abbrev pub asked : Bool → Refusal → Read → Read
asked b q r = cond b r (Err q)

-- FORMAT 11.2: is there a strip that fits?
abbrev pub found : Option (List F) → Read
found none = Err Uncorrectable
found (some w) = Ok w

unfoldable pub reading : List ℕ → ℕ → Read
reading y o =
    asked (ltb 0 (length y) && leb (length y) 255) Length
    (asked (eqb o (length y)) OutputSize
    (asked (bits? y) NotBinary
    (found (answer (length y) (bytes y)))))

abbrev pub answer_to : Read → Result (Unit {0}) Refusal
answer_to (Ok w) = Ok tt
answer_to (Err q) = Err q

abbrev pub word_in : Read → List ℕ → List ℕ
word_in (Ok w) o = map byte w
word_in (Err q) o = o
