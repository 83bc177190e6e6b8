-- What is printed for a card: FORMAT 9. A card is the list of its bytes.
--
--   section n c f    a section of n bytes at the front of c: f of the section and of what follows it, or 11
--   end c            what is printed where the card has to end
--   blocks p k i c   what is printed for k blocks of the profile p, the first of which has the number i
--   counted p c      .. for the number of blocks, and the blocks
--   profiled n c     .. for the n bytes of a profile, and what follows them
--   printed c        the list that is printed for a card
use Rattle.std.specs.Prelude.{ℕ, zero, suc, ◌+◌, ◌*◌, cond, List, [], ◌++◌, ltb, length, get_or, take, drop, Ok, Err}
use Rattle.profile.specs.declared.Profile.{Profile}
use Rattle.profile.specs.declared.Refusal.TheVariants.{ProfileSize}
use Rattle.profile.specs.Definition.{Parsed, number_of, block_size}
use Rattle.profile.specs.Questions.{good_size, profile_of}
use Rattle.listing.specs.Definition.{blocks_line, card_line}
use Rattle.card.specs.BlockLineDefinition.{block_line}

-- FORMAT 4.12: a section that is not whole gives 11
abbrev pub section : ℕ → List ℕ → (List ℕ → List ℕ → List ℕ) → List ℕ
section n c f = cond (ltb (length c) n) (card_line 11) (f (take n c) (drop n c))

-- FORMAT 4.13: a byte after the last section gives 12
abbrev pub end : List ℕ → List ℕ
end c = cond (ltb (length c) 1) [] (card_line 12)

-- FORMAT 9.5: the lines of the blocks that are whole come first
abbrev pub blocks : Profile → ℕ → ℕ → List ℕ → List ℕ
blocks p zero i c = end c
blocks p (suc k) i c = section (block_size p) c (λ y r. block_line p i y ++ blocks p k (suc i) r)

-- FORMAT 9.1: the number of blocks has two bytes, the high one first
abbrev pub count_of : List ℕ → ℕ
count_of b = 256 * get_or b 0 0 + get_or b 1 0

abbrev pub numbered : Profile → List ℕ → List ℕ → List ℕ
numbered p b r = blocks_line (count_of b) ++ blocks p (count_of b) 0 r

abbrev pub counted : Profile → List ℕ → List ℕ
counted p c = section 2 c (numbered p)

-- FORMAT 9.3: the profile is judged before the number of blocks is there
abbrev pub profile_judged : Parsed → List ℕ → List ℕ
profile_judged (Ok p) r = counted p r
profile_judged (Err q) r = card_line (number_of q)

-- FORMAT 9.3: .. when its n bytes are there, which is at once if it has none
abbrev pub profiled : ℕ → List ℕ → List ℕ
profiled n c = section n c (λ b. profile_judged (profile_of b))

-- FORMAT 9.3: a first byte other than 0, 7 and 8 gives 1, and no first byte 11
abbrev pub sized : ℕ → List ℕ → List ℕ
sized n r = cond (good_size n) (profiled n r) (card_line (number_of ProfileSize))

abbrev pub printed : List ℕ → List ℕ
printed c = section 1 c (λ b. sized (get_or b 0 0))
