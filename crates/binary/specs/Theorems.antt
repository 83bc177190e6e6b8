-- What the promises of `decode_binary` come to.
--
-- Proved: what is accepted fits, so that it is always in the code (read_fits); a word that fits is what is read
-- (read_restores), so a word of the code with at most three other bits comes back.
use Rattle.std.specs.Prelude.{ℕ, ◌≤◌, ◌<◌, ◌≡◌, Bool, true, false, ◌&&◌, List, [], ltb, eqb, length, Ok, Err}
use Rattle.std.proofs.Common.{sym, ap, ◌∙◌, true≢false}
use Rattle.std.proofs.Math.Option.{Option, none, some}
use Rattle.std.proofs.Math.Dec.{leb}
use Rattle.field.specs.Field.{F}
use Rattle.series.specs.Series.{Series}
use Rattle.series.specs.Array.{bytes}
use Rattle.series.specs.Word.{entry, word}
use Rattle.series.specs.First.{first_some}
use Rattle.binary.specs.declared.Refusal.{Refusal}
use Rattle.binary.specs.declared.Refusal.TheVariants.{Length, OutputSize, NotBinary}
use Rattle.binary.specs.Definition.{Fits, answer, Read, bits?, asked, found, reading}
use Rattle.binary.specs.Answer.{answer-one}
use Rattle.binary.specs.Reading.{reading-bits}

-- ---- where something is decoded, every question was answered by yes

accepts : Read → Bool
accepts (Ok w) = true
accepts (Err q) = false

word_of : Read → List F
word_of (Ok w) = w
word_of (Err q) = []

asked_yes : (b : Bool) (q : Refusal) (r : Read) (v : List F) → asked b q r ≡ Ok v → r ≡ Ok v
unfolding accepts
asked_yes true q r v e = e
asked_yes false q r v e = absurd (true≢false (sym (ap accepts e)))

found_some : (o : Option (List F)) (v : List F) → found o ≡ Ok v → o ≡ some v
unfolding accepts word_of
found_some none v e = absurd (true≢false (sym (ap accepts e)))
found_some (some w) v e = ap {B = Option (List F)} some (ap word_of e)

module _ (y : List ℕ) (o : ℕ) where
  abbrev symbols : Read
  symbols = asked (bits? y) NotBinary (found (answer (length y) (bytes y)))

  pub read_fits : (v : List F) → reading y o ≡ Ok v
      → (length v ≡ length y) × Fits (length y) (bytes y) (entry v)
  unfolding reading answer
  read_fits v e =
      let room : asked (eqb o (length y)) OutputSize symbols ≡ Ok v =
      asked_yes (ltb 0 (length y) && leb (length y) 255) Length _ v e in
      let told : symbols ≡ Ok v = asked_yes (eqb o (length y)) OutputSize symbols v room in
      first_some (length y) _ v (found_some (answer (length y) (bytes y)) v (asked_yes (bits? y) NotBinary _ v told))

  pub read_restores : 0 < length y → length y ≤ 255 → o ≡ length y → bits? y ≡ true
      → (w : Series) → Fits (length y) (bytes y) w → reading y o ≡ Ok (word (length y) w)
  read_restores p m r b w x = reading-bits y o p m r b ∙ ap found (answer-one (length y) (bytes y) m w x)
