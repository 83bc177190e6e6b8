-- One step: a section of a card is judged, a line or none is printed, and another section comes next.
--
--   whole s y        what the section s comes to that is whole, and holds y
--   cut s            .. that is not whole
--   step s y         .. of which y is there, or more than all of it: only its own bytes are of interest
--   after s c        what is printed for the rest c of a card, at the front of which s comes next
--   rest s c         .. nothing if no card leads to s
--   Judges s y l t m what judging hands back is t, given y where s comes next, the line being l before it and m after
--                    it: it takes the step of s (of Over, if no card leads to s); and for every card of which y is
--                    next, what was to be printed is what t printed, and what is to be printed after it
use Rattle.std.specs.Prelude.{ℕ, ◌+◌, ◌-◌, ◌≤◌, ◌<◌, ◌≡◌, false, cond, List, [], ◌++◌, ltb, length, get_or, take, drop}
use Rattle.profile.specs.Questions.{profile_of}
use Rattle.card.specs.declared.section.Section.{Section}
use Rattle.card.specs.declared.section.Section.TheVariants.{Size, Bytes, Count, Block, End, Over}
use Rattle.card.specs.declared.section.Judged.{Judged}
use Rattle.card.specs.SectionDefinition.{known, size, wanted, ends, over, left}
use Rattle.card.specs.SectionDefinition.{from, Step, silent, refusal, Takes}
use Rattle.card.specs.HeadingDefinition.{size_step, profile_step, count_step}
use Rattle.card.specs.BlockLineDefinition.{block_line}
use Rattle.card.specs.PrintedDefinition.{end, blocks, count_of, counted, profiled, printed}

abbrev pub whole : Section → List ℕ → Step
whole Size y = size_step (get_or y 0 0)
whole (Bytes n) y = profile_step (profile_of y)
whole (Count p) y = count_step p (count_of y)
whole (Block p i k) y = record { text = block_line p i y; next = from p (i + 1) k }
whole End y = refusal 12
whole Over y = silent Over

abbrev pub cut : Section → Step
cut s = cond (ends s) (silent Over) (refusal 11)

abbrev pub step : Section → List ℕ → Step
step s y = cond (ltb (length y) (size s)) (cut s) (whole s (take (size s) y))

abbrev pub after : Section → List ℕ → List ℕ
after Size c = printed c
after (Bytes n) c = profiled n c
after (Count p) c = counted p c
after (Block p i k) c = blocks p (k - i) i c
after End c = end c
after Over c = []

abbrev pub rest : Section → List ℕ → List ℕ
rest s c = after (known s) c

pub record Judges (s : Section) (y l : List ℕ) (t : Judged) (m : List ℕ) : Type 0 where
  pub takes : Takes (step (known s) y) l t m
  pub size : t.size ≤ length m
  pub falls : over s ≡ false → left t.next < left s
  pub says : (c : List ℕ) → y ≡ take (wanted s) c → rest s c ≡ take t.size m ++ rest t.next (drop (wanted s) c)
