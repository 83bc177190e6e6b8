-- The sections of a card, as they are judged.
--
--   accepts p          the profile p passes questions 2 to 5, and 14
--   good s             a card can lead to the section s: its profile may have so many bytes, and some; it was accepted;
--                      and the number of its block is below the number of blocks
--   known s            s, or Over if no card leads to it
--   size s             how many bytes the section s has
--   wanted s           how many bytes come next: none if no card leads to s
--   kinds s            so many kinds of sections are left, the one of s among them
--   ends s             a card may end where s comes next
--   over s             all is printed
--   left s             so many sections at most are left
--   from p i k         block i out of k, or the end
--   Step               what a section comes to: the text that is printed, and what comes next (silent: no text;
--                      refusal: the card is refused)
--   Takes x l t m      t is what the step x hands back: the line was l, and is m now
use Rattle.std.specs.Prelude.{ℕ, suc, ◌-◌, ◌≡◌, Bool, true, false, cond, ◌&&◌, List, [], eqb, ltb, leb, Ok, Err}
use Rattle.profile.specs.declared.Profile.{Profile}
use Rattle.profile.specs.declared.questions.Caller.TheVariants.{Card}
use Rattle.profile.specs.declared.questions.Lent.{Lent}
use Rattle.profile.specs.Definition.{Parsed, block_size}
use Rattle.profile.specs.Questions.{good_size, asked}
use Rattle.listing.specs.Definition.{card_line, Printed}
use Rattle.card.specs.declared.section.Section.{Section}
use Rattle.card.specs.declared.section.Section.TheVariants.{Size, Bytes, Count, Block, End, Over}
use Rattle.card.specs.declared.section.Judged.{Judged}

abbrev pub passes : Parsed → Bool
passes (Ok p) = true
passes (Err q) = false

-- a profile whose length is right, and nothing besides
abbrev pub alone : Lent
alone = record { profile = 7; input = 0; output = 0; subword = 0 }

unfoldable pub accepts : Profile → Bool
accepts p = passes (asked Card alone p)

abbrev pub good : Section → Bool
good Size = true
good (Bytes n) = ltb 0 n && good_size n
good (Count p) = accepts p
good (Block p i k) = ltb i k && accepts p
good End = true
good Over = true

abbrev pub known : Section → Section
known s = cond (good s) s Over

abbrev pub size : Section → ℕ
size Size = 1
size (Bytes n) = n
size (Count p) = 2
size (Block p i k) = block_size p
size End = 1
size Over = 0

abbrev pub wanted : Section → ℕ
wanted s = size (known s)

abbrev pub kinds : Section → ℕ
kinds Size = 5
kinds (Bytes n) = 4
kinds (Count p) = 3
kinds (Block p i k) = 2
kinds End = 1
kinds Over = 0

abbrev pub ends : Section → Bool
ends s = leb (kinds s) 1

abbrev pub over : Section → Bool
over s = eqb (kinds s) 0

abbrev pub left : Section → ℕ
left Size = 65540
left (Bytes n) = 65539
left (Count p) = 65538
left (Block p i k) = suc (suc (k - i))
left End = 1
left Over = 0

abbrev pub from : Profile → ℕ → ℕ → Section
from p i k = cond (ltb i k) (Block p i k) End

pub record Step : Type 0 where
  pub text : List ℕ
  pub next : Section

abbrev pub silent : Section → Step
silent s = record { text = []; next = s }

abbrev pub refusal : ℕ → Step
refusal q = record { text = card_line q; next = Over }

pub record Takes (x : Step) (l : List ℕ) (t : Judged) (m : List ℕ) : Type 0 where
  pub next : t.next ≡ x.next
  pub line : Printed x.text l t.size m
