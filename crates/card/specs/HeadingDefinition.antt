-- What the sections before the blocks come to: FORMAT 9.
--
--   card_number r     the number of the refusal r of a card
--   size_step n       the byte n tells how many bytes the profile has
--   profile_step a    a is the answer to the bytes of the profile
--   count_step p k    there are k blocks of the profile p
use Rattle.std.specs.Prelude.{ℕ, cond, eqb, Ok, Err}
use Rattle.profile.specs.declared.Profile.{Profile}
use Rattle.profile.specs.declared.Refusal.TheVariants.{ProfileSize}
use Rattle.profile.specs.Definition.{Parsed, number_of}
use Rattle.profile.specs.Questions.{good_size, factory}
use Rattle.listing.specs.Definition.{blocks_line}
use Rattle.card.specs.declared.heading.Refusal as card
use Rattle.card.specs.declared.heading.Refusal.TheVariants.{Cut, Beyond, Profile as by_profile}
use Rattle.card.specs.declared.section.Section.TheVariants.{Bytes, Count}
use Rattle.card.specs.SectionDefinition.{from, Step, silent, refusal}

abbrev pub card_number : card.Refusal → ℕ
card_number Cut = 11
card_number Beyond = 12
card_number (by_profile q) = number_of q

-- FORMAT 9.3: after a first byte of 0 the number of blocks comes next; one other than 0, 7 and 8 gives 1
abbrev pub size_step : ℕ → Step
size_step n =
    cond (eqb n 0) (silent (Count factory)) (cond (good_size n) (silent (Bytes n)) (refusal (number_of ProfileSize)))

-- FORMAT 9.4: a card with a refused profile is refused by its number
abbrev pub profile_step : Parsed → Step
profile_step (Ok p) = silent (Count p)
profile_step (Err q) = refusal (number_of q)

-- FORMAT 9.4: the number of blocks is printed
abbrev pub count_step : Profile → ℕ → Step
count_step p k = record { text = blocks_line k; next = from p 0 k }
