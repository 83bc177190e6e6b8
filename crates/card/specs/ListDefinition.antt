-- What a program has read and written of a card.
--
--   Rest x d       the card may go on with d, where the streams are x: with nothing, if its end was met
--   Starts o l     the text l starts with o
--   Lists x        the card was read as far as the streams x say, and the text was written. Of every card that starts
--                  with what was read, and that ends there if its end was met, the text is the list; it is the start of
--                  the list if a read or a write failed
--   Reached s x    .. where the section s comes next: with what is to be printed from s on, the text is the list.
--                  Nothing has ended or failed, unless all is printed
use Rattle.std.specs.Prelude.{ℕ, ◌≡◌, true, false, List, [], ◌++◌}
use Rattle.stream.specs.declared.Stream.{Stream}
use Rattle.stream.specs.Trace.{Trace}
use Rattle.card.specs.declared.section.Section.{Section}
use Rattle.card.specs.SectionDefinition.{good, over}
use Rattle.card.specs.PrintedDefinition.{printed}
use Rattle.card.specs.PrintedStep.{rest}

abbrev pub Rest : Stream → List ℕ → Type 0
Rest x d = x.ended ≡ true → d ≡ []

abbrev pub Starts : List ℕ → List ℕ → Type 0
Starts o l = (u : List ℕ) × (o ++ u ≡ l)

pub record Lists (x : Stream) : Type 0 where
  pub card : List ℕ
  pub text : List ℕ
  pub trace : Trace x card text
  pub whole : x.unread ≡ false → x.unwritten ≡ false → (d : List ℕ) → Rest x d → text ≡ printed (card ++ d)
  pub start : (d : List ℕ) → Rest x d → Starts text (printed (card ++ d))

pub record Reached (s : Section) (x : Stream) : Type 0 where
  pub card : List ℕ
  pub text : List ℕ
  pub trace : Trace x card text
  pub good : good s ≡ true
  pub goes : over s ≡ false → (x.ended ≡ false) × (x.unread ≡ false) × (x.unwritten ≡ false)
  pub whole : x.unread ≡ false → x.unwritten ≡ false → (d : List ℕ) → Rest x d
      → text ++ rest s d ≡ printed (card ++ d)
  pub start : (d : List ℕ) → Rest x d → Starts text (printed (card ++ d))
