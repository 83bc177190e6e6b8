-- Samples of profiles, by computation: FORMAT 10.2. The numbers that each caller asks by stand below.
--
--   numbers c    the numbers of the questions that the caller c asks, in their order
use Rattle.std.specs.Prelude.{◌≡◌, refl, ℕ, List, [], ◌∷◌, map, Ok, Err}
use Rattle.profile.specs.declared.Refusal.TheVariants.{Capabilities, EqualCapabilities, Length, FirstRoot}
use Rattle.profile.specs.declared.questions.Caller.{Caller}
use Rattle.profile.specs.declared.questions.Caller.TheVariants.{Encoder, Decoder, Fetch, Extract, Card}
use Rattle.profile.specs.Definition.{number_of, data_size}
use Rattle.profile.specs.Questions.{questions_of, asked, read, profile_of, writing, reading_of}

-- n must be above 2 × tv, which is 4
short : profile_of (2 ∷ 1 ∷ 4 ∷ 1 ∷ 2 ∷ 0 ∷ 0 ∷ []) ≡ Err Length
unfolding asked
short = refl

long : profile_of (2 ∷ 1 ∷ 5 ∷ 1 ∷ 2 ∷ 0 ∷ 0 ∷ []) ≡ Ok (read (2 ∷ 1 ∷ 5 ∷ 1 ∷ 2 ∷ 0 ∷ 0 ∷ []))
unfolding asked
long = refl

-- the last capability is at most 24
strong : profile_of (8 ∷ 3 ∷ 255 ∷ 14 ∷ 16 ∷ 18 ∷ 24 ∷ []) ≡ Ok (read (8 ∷ 3 ∷ 255 ∷ 14 ∷ 16 ∷ 18 ∷ 24 ∷ []))
unfolding asked
strong = refl

too_strong : profile_of (8 ∷ 3 ∷ 255 ∷ 14 ∷ 16 ∷ 18 ∷ 25 ∷ []) ≡ Err Capabilities
unfolding asked
too_strong = refl

-- t1 and t2 are equal: the writer asks about that before it asks about n, and no reader does
equal-written : writing (3 ∷ 2 ∷ 4 ∷ 1 ∷ 2 ∷ 2 ∷ 0 ∷ []) 2 12 ≡ Err EqualCapabilities
unfolding asked
equal-written = refl

equal-short : reading_of (3 ∷ 2 ∷ 4 ∷ 1 ∷ 2 ∷ 2 ∷ 0 ∷ []) 12 12 ≡ Err Length
unfolding asked
equal-short = refl

equal-read : reading_of (3 ∷ 2 ∷ 5 ∷ 1 ∷ 2 ∷ 2 ∷ 0 ∷ []) 15 15 ≡ Ok (read (3 ∷ 2 ∷ 5 ∷ 1 ∷ 2 ∷ 2 ∷ 0 ∷ []))
unfolding asked
equal-read = refl

-- the zeros after tv are no capabilities
one_written : writing (2 ∷ 1 ∷ 5 ∷ 1 ∷ 2 ∷ 0 ∷ 0 ∷ []) 4 10 ≡ Ok (read (2 ∷ 1 ∷ 5 ∷ 1 ∷ 2 ∷ 0 ∷ 0 ∷ []))
unfolding asked
one_written = refl

-- the first root is α^0 to α^254, and n is asked about before it
last-root : profile_of (2 ∷ 1 ∷ 5 ∷ 1 ∷ 2 ∷ 0 ∷ 0 ∷ 254 ∷ [])
    ≡ Ok (read (2 ∷ 1 ∷ 5 ∷ 1 ∷ 2 ∷ 0 ∷ 0 ∷ 254 ∷ []))
unfolding asked
last-root = refl

no-root : profile_of (2 ∷ 1 ∷ 5 ∷ 1 ∷ 2 ∷ 0 ∷ 0 ∷ 255 ∷ []) ≡ Err FirstRoot
unfolding asked
no-root = refl

short_no-root : profile_of (2 ∷ 1 ∷ 4 ∷ 1 ∷ 2 ∷ 0 ∷ 0 ∷ 255 ∷ []) ≡ Err Length
unfolding asked
short_no-root = refl

-- the data size of a block of 2040 symbols
size : data_size (read (8 ∷ 3 ∷ 255 ∷ 14 ∷ 16 ∷ 18 ∷ 24 ∷ [])) ≡ 1784
size = refl

-- ---- who asks which question, in which order: FORMAT 4.14

abbrev numbers : Caller → List ℕ
numbers c = map (λ q. number_of q.refusal) (questions_of c)

encoder-asks : numbers Encoder ≡ 1 ∷ 2 ∷ 3 ∷ 4 ∷ 15 ∷ 5 ∷ 14 ∷ 6 ∷ 7 ∷ []
encoder-asks = refl

decoder-asks : numbers Decoder ≡ 1 ∷ 2 ∷ 3 ∷ 4 ∷ 5 ∷ 14 ∷ 6 ∷ 7 ∷ []
decoder-asks = refl

fetch-asks : numbers Fetch ≡ 1 ∷ 2 ∷ 3 ∷ 4 ∷ 5 ∷ 14 ∷ 6 ∷ 10 ∷ []
fetch-asks = refl

extract-asks : numbers Extract ≡ 1 ∷ 2 ∷ 3 ∷ 4 ∷ 5 ∷ 14 ∷ 6 ∷ 7 ∷ []
extract-asks = refl

card-asks : numbers Card ≡ 1 ∷ 2 ∷ 3 ∷ 4 ∷ 5 ∷ 14 ∷ []
card-asks = refl
