-- The questions that a profile and the buffers lent with it are put, in their order: FORMAT 4.
--
--   Question           who asks it, what it asks, and the refusal that a no gives, with its number
--   questions          all questions, in their order; questions_of c: those that the caller c asks
--   put k y q a        a question that is asked if k, and answered by yes if y, put to what was accepted so far
--   asked c l p        all questions put to the profile p, for the caller c who lends l: the first no stays
--   factory            what a profile of no bytes means
--   read b             what the bytes b of a profile mean
--   admitted c b d o i the profile of the bytes b for the caller c, with an input of d bytes, an output of o bytes and
--                      the subword i, or the first question that says no
--   profile_of b       .. by itself: what a card asks
--   writing b d o, reading_of b d o, fetching b d i, extracting b d o    .. for a block that is written, that is
--                                                      read, that is fetched from, of which the data are read
use Rattle.std.specs.Prelude.{ℕ, zero, suc, ◌*◌, Bool, true, false, cond, ◌&&◌, ◌||◌, List, [], ◌∷◌, leb, ltb, eqb}
use Rattle.std.specs.Prelude.{length, get_or, Ok, Err}
use Rattle.profile.specs.declared.Profile.{Profile}
use Rattle.profile.specs.declared.Refusal.{Refusal}
use Rattle.profile.specs.declared.Refusal.TheVariants.{ProfileSize, Subwords, Nested, Capabilities}
use Rattle.profile.specs.declared.Refusal.TheVariants.{EqualCapabilities, Length, FirstRoot, InputSize}
use Rattle.profile.specs.declared.Refusal.TheVariants.{OutputSize, Subword}
use Rattle.profile.specs.declared.questions.Caller.{Caller}
use Rattle.profile.specs.declared.questions.Caller.TheVariants.{Encoder, Decoder, Fetch, Extract, Card}
use Rattle.profile.specs.declared.questions.Lent.{Lent}
use Rattle.profile.specs.Definition.{Parsed, capability, first-root, last, block_size, data_size}

-- ---- who asks

abbrev pub everyone : Caller → Bool
everyone c = true

abbrev pub encodes : Caller → Bool
encodes Encoder = true
encodes Decoder = false
encodes Fetch = false
encodes Extract = false
encodes Card = false

abbrev pub decodes : Caller → Bool
decodes Encoder = false
decodes Decoder = true
decodes Fetch = false
decodes Extract = false
decodes Card = false

abbrev pub fetches : Caller → Bool
fetches Encoder = false
fetches Decoder = false
fetches Fetch = true
fetches Extract = false
fetches Card = false

abbrev pub extracts : Caller → Bool
extracts Encoder = false
extracts Decoder = false
extracts Fetch = false
extracts Extract = true
extracts Card = false

-- ---- the questions

pub record Question : Type 0 where
  pub asks : Caller → Bool
  pub good : Lent → Profile → Bool
  pub refusal : Refusal

-- FORMAT 4.2: the profile has no bytes, or seven, or eight
abbrev pub good_size : ℕ → Bool
good_size n = (eqb n 0 || eqb n 7) || eqb n 8

abbrev pub profile_size : Question
profile_size = record { asks = everyone; good = λ l p. good_size l.profile; refusal = ProfileSize }

-- FORMAT 4.3: m is from 1 to 8
abbrev pub good_subwords : Profile → Bool
good_subwords p = leb 1 p.subwords && leb p.subwords 8

abbrev pub subwords : Question
subwords = record { asks = everyone; good = λ l p. good_subwords p; refusal = Subwords }

-- FORMAT 4.4: v is at most 3, and below m
abbrev pub good_nested : Profile → Bool
good_nested p = leb p.nested 3 && ltb p.nested p.subwords

abbrev pub nested : Question
nested = record { asks = everyone; good = λ l p. good_nested p; refusal = Nested }

-- FORMAT 4.5: t0 is at least 1, t1 above t0, none of the next below the one before it, and 0 after tv; tv is at most 24
abbrev pub good_step : Profile → ℕ → Bool
good_step p zero = leb 1 p.t0
good_step p (suc zero) = cond (leb 1 p.nested) (ltb p.t0 p.t1) (eqb p.t1 0)
good_step p (suc (suc r)) =
    cond (leb (suc (suc r)) p.nested)
    (leb (capability p (suc r)) (capability p (suc (suc r))))
    (eqb (capability p (suc (suc r))) 0)

abbrev pub good_capabilities : Profile → Bool
good_capabilities p = good_step p 0 && (good_step p 1 && (good_step p 2 && (good_step p 3 && leb (last p) 24)))

abbrev pub capabilities : Question
capabilities = record { asks = everyone; good = λ l p. good_capabilities p; refusal = Capabilities }

-- FORMAT 4.16: t1 < .. < tv, that is t_r < t_(r+1) for each r from 1 on that is below v. Whoever reads does not ask:
-- what was written under equal capabilities is still read.
abbrev pub good_rise : Profile → ℕ → Bool
good_rise p r = ltb p.nested (suc r) || ltb (capability p r) (capability p (suc r))

abbrev pub good_rising : Profile → Bool
good_rising p = good_rise p 1 && good_rise p 2

abbrev pub rising : Question
rising = record { asks = encodes; good = λ l p. good_rising p; refusal = EqualCapabilities }

-- FORMAT 4.6: n is above 2 × tv. A byte is at most 255.
abbrev pub good_length : Profile → Bool
good_length p = ltb (2 * last p) p.length

abbrev pub length_above : Question
length_above = record { asks = everyone; good = λ l p. good_length p; refusal = Length }

-- FORMAT 4.17: f is at most 254
abbrev pub good_root : Profile → Bool
good_root p = leb (first-root p) 254

abbrev pub root_below : Question
root_below = record { asks = everyone; good = λ l p. good_root p; refusal = FirstRoot }

-- FORMAT 4.7: the input is as long as it has to be: the data of a block, or a block
abbrev pub input_data : Question
input_data = record { asks = encodes; good = λ l p. eqb l.input (data_size p); refusal = InputSize }

abbrev pub input_block : Question
input_block = record {
  asks = λ c. (decodes c || fetches c) || extracts c;
  good = λ l p. eqb l.input (block_size p);
  refusal = InputSize;
}

-- FORMAT 4.8: the output is as long as it has to be: a block, or the data of one
abbrev pub output_block : Question
output_block = record {
  asks = λ c. encodes c || decodes c;
  good = λ l p. eqb l.output (block_size p);
  refusal = OutputSize;
}

abbrev pub output_data : Question
output_data = record { asks = extracts; good = λ l p. eqb l.output (data_size p); refusal = OutputSize }

-- FORMAT 4.11: the number of the subword is below m
abbrev pub subword_below : Question
subword_below = record { asks = fetches; good = λ l p. ltb l.subword p.subwords; refusal = Subword }

-- ---- in their order

abbrev pub questions : List Question
questions =
    profile_size
    ∷ subwords
    ∷ nested
    ∷ capabilities
    ∷ rising
    ∷ length_above
    ∷ root_below
    ∷ input_data
    ∷ input_block
    ∷ output_block
    ∷ output_data
    ∷ subword_below
    ∷ []

abbrev chosen : Caller → List Question → List Question
chosen c [] = []
chosen c (q ∷ qs) = cond (q.asks c) (q ∷ chosen c qs) (chosen c qs)

abbrev pub questions_of : Caller → List Question
questions_of c = chosen c questions

-- ---- asked

abbrev pub put : Bool → Bool → Refusal → Parsed → Parsed
put asks good q (Ok p) = cond (cond asks good true) (Ok p) (Err q)
put asks good q (Err r) = Err r

abbrev pub put_all : Caller → Lent → Profile → List Question → Parsed → Parsed
put_all c l p [] a = a
put_all c l p (q ∷ qs) a = put_all c l p qs (put (q.asks c) (q.good l p) q.refusal a)

unfoldable pub asked : Caller → Lent → Profile → Parsed
asked c l p = put_all c l p questions (Ok p)

-- ---- the bytes of a profile

-- FORMAT 2.1: the bytes one after the other; the eighth, which may be missing, is 1 then
abbrev pub fields : List ℕ → Profile
fields b = record {
  subwords = get_or b 0 0;
  nested = get_or b 1 0;
  length = get_or b 2 0;
  t0 = get_or b 3 0;
  t1 = get_or b 4 0;
  t2 = get_or b 5 0;
  t3 = get_or b 6 0;
  first_root = get_or b 7 1;
}

-- FORMAT 2.6: the profile of the cards that leave it out
abbrev pub factory : Profile
factory = record {
  subwords = 8;
  nested = 3;
  length = 255;
  t0 = 14;
  t1 = 16;
  t2 = 18;
  t3 = 24;
  first_root = 1;
}

abbrev pub read : List ℕ → Profile
read [] = factory
read (x ∷ b) = fields (x ∷ b)

abbrev pub lent : List ℕ → (input output subword : ℕ) → Lent
lent b d o i = record { profile = length b; input = d; output = o; subword = i }

abbrev pub admitted : Caller → List ℕ → (input output subword : ℕ) → Parsed
admitted c b d o i = asked c (lent b d o i) (read b)

abbrev pub profile_of : List ℕ → Parsed
profile_of b = admitted Card b 0 0 0

abbrev pub writing : List ℕ → (input output : ℕ) → Parsed
writing b d o = admitted Encoder b d o 0

abbrev pub reading_of : List ℕ → (input output : ℕ) → Parsed
reading_of b d o = admitted Decoder b d o 0

abbrev pub fetching : List ℕ → (input subword : ℕ) → Parsed
fetching b d i = admitted Fetch b d 0 i

abbrev pub extracting : List ℕ → (input output : ℕ) → Parsed
extracting b d o = admitted Extract b d o 0
