-- Staged decoding as a function of the profile and the received block: FORMAT 6 and 7. No solver is mentioned here.
-- A block is a series of which the first m × n symbols are read; the syndromes of a subword are a series, its row in
-- the table, zero where not known.
--
--   count n b            how many numbers below n pass the test b; nth n b w: number w of them; total n f: f
--                        0 + .. + f (n − 1)
--   Verdict              on a subword: clean, or corrected (FORMAT's mended) with count and stage
--   Line                 what the report says of a subword: its verdict, and how many of its bits were changed
--   bit_weight n f       how many bits are set in the first n symbols of f
--   Progress             the block as corrected so far, the lines of the subwords that are settled, the rows
--                        of syndromes
--   start p y            the progress before stage 0, y being received
--   settle_at p r s      the pattern that settles a subword with the row s at stage r; none if there is none
--   found p r g i        the pattern that settles subword i at stage r; none if there is none, or it was settled before
--   step p r i g         stage r for subword i alone; stage p r g: for all of them
--   open? g i            whether subword i is not settled; unsettled p g: how many are not
--   fresh p g i j        S_j of the unsettled subword i from the nested words
--   round p r g          round r + 1: the rows of the unsettled subwords go on to 2 t_(r+1)
--   stages p left r g    how decoding ends, from stage r on, with left = v − r
--   rounds_of p s r      the stages 0 to r, taken as rounds of the row s
--   Report, Outcome      what a decoder answers
--   decode p y           what the received block y is decoded to
--   differences p s t i  at how many positions subword i differs in the blocks s and t; bit_differences: in how many
--                        bits
use Rattle.std.specs.Prelude.{ℕ, zero, suc, ◌+◌, ◌-◌, ◌*◌, Bool, true, false, not, cond, ◌&&◌, List, [], ◌∷◌, ◌++◌, leb}
use Rattle.std.specs.Prelude.{ltb, eqb}
use Rattle.std.proofs.Math.Logic.{ite}
use Rattle.std.proofs.Math.Option.{Option, none, some, get_or}
use Rattle.std.proofs.Math.Decide.{ℕ_discrete}
use Rattle.std.specs.Int.Bits.{bit_xor}
use Rattle.std.specs.Int.Count.{ones}
use Rattle.field.specs.Field.{F, α, ◌≟◌, pow, byte}
use Rattle.series.specs.Series.{Series, ◌⊞◌, ◌⊠◌}
use Rattle.series.specs.Shift.{zpow, drop}
use Rattle.series.specs.Interpolation.{solution}
use Rattle.series.specs.Decide.{holds}
use Rattle.series.specs.Word.{entry, word, weight}
use Rattle.profile.specs.declared.Profile.{Profile}
use Rattle.profile.specs.Definition.{capability, first-root}
use Rattle.code.specs.Definition.{syndrome_of, subword, nested}
use Rattle.code.specs.Encoding.{codeword?}
use Rattle.code.specs.Check.{received}
use Rattle.settling.specs.Definition.{settle}

-- ---- numbers and functions

unfoldable pub count : ℕ → (ℕ → Bool) → ℕ
count zero b = 0
count (suc n) b = cond (b n) (suc (count n b)) (count n b)

-- from the least on
unfoldable pub nth : ℕ → (ℕ → Bool) → ℕ → ℕ
nth zero b w = 0
nth (suc n) b w = cond (ltb w (count n b)) (nth n b w) n

unfoldable pub total : ℕ → (ℕ → ℕ) → ℕ
total zero f = 0
total (suc n) f = total n f + f n

-- f with x at i
unfoldable pub put : {A : Type 0} → ℕ → A → (ℕ → A) → ℕ → A
put i x f k = ite (ℕ_discrete k i) x (f k)

-- f 0, then f 1, .., then f (n − 1)
unfoldable pub each : {A : Type 0} → ℕ → (ℕ → A → A) → A → A
each zero f a = a
each (suc n) f a = f n (each n f a)

-- ---- lines

pub data Verdict : Type 0 where
  clean : Verdict
  corrected : (count stage : ℕ) → Verdict

-- settled at stage r by k changes. FORMAT 7.2: clean is a strip that was settled at stage 0 by the empty pattern
abbrev pub verdict_at : ℕ → ℕ → Verdict
verdict_at r k = cond (eqb r 0 && eqb k 0) clean (corrected k r)

abbrev pub count_of : Verdict → ℕ
count_of clean = 0
count_of (corrected k r) = k

abbrev pub stage_of : Verdict → ℕ
stage_of clean = 0
stage_of (corrected k r) = r

pub record Line : Type 0 where
  pub verdict : Verdict
  pub bits : ℕ

-- .. in b bits
abbrev pub line_of : (r k b : ℕ) → Line
line_of r k b = record { verdict = verdict_at r k; bits = b }

-- nothing was changed
abbrev pub clean_line : Line
clean_line = record { verdict = clean; bits = 0 }

-- of a pattern: FORMAT 7.10, since received byte exclusive-or mended byte is its symbol
unfoldable pub bit_weight : ℕ → Series → ℕ
bit_weight n f = total n (λ q. ones (byte (f q)))

-- the line of a subword of n symbols that the pattern e settles at stage r
abbrev pub line_by : ℕ → ℕ → Series → Line
line_by n r e = line_of r (weight n e) (bit_weight n e)

-- ---- progress

-- a subword that is not settled has no line yet
pub record Progress : Type 0 where
  pub block : Series
  pub line : ℕ → Option Line
  pub row : ℕ → Series

-- FORMAT 6.1: S_j of every strip, for j below 2 × t0, is that of the received strip
unfoldable pub start : Profile → Series → Progress
start p y = record { block = y; line = λ i. none; row = received p y (2 * capability p 0) }

abbrev pub unsettled_line : Option Line → Bool
unsettled_line none = true
unsettled_line (some l) = false

abbrev pub open? : Progress → ℕ → Bool
open? g i = unsettled_line (g.line i)

unfoldable pub unsettled : Profile → Progress → ℕ
unsettled p g = count p.subwords (open? g)

-- ---- a stage

-- the block s with the pattern e added to subword i
unfoldable pub add : ℕ → ℕ → Series → Series → Series
add n i e s = s ⊞ zpow (i * n) ⊠ e

-- the pattern that settles a subword with the row s at stage r
abbrev pub settle_at : Profile → ℕ → Series → Option (List F)
settle_at p r = settle (first-root p) (capability p r) p.length

-- FORMAT 6.3: the pattern that explains the strip settles it; if there is none, the strip fails this stage
unfoldable pub found : Profile → ℕ → Progress → ℕ → Option (List F)
found p r g i = cond (open? g i) (settle_at p r (g.row i)) none

abbrev pub correct : Profile → ℕ → ℕ → Option (List F) → Progress → Progress
correct p r i none g = g
correct p r i (some w) g = record {
  block = add p.length i (entry w) g.block;
  line = put i (some (line_by p.length r (entry w))) g.line;
  row = g.row;
}

unfoldable pub step : Profile → ℕ → ℕ → Progress → Progress
step p r i g = correct p r i (found p r g i) g

-- one subword after the other: what is found for one depends on its own line and row
unfoldable pub stage : Profile → ℕ → Progress → Progress
stage p r g = each p.subwords (step p r) g

-- ---- a round

-- FORMAT 6.6: the S_j of the unsettled strips i_0 < i_1 < .. are the one solution of b equations, with the nested sums
-- of the block as it stands then; α^(i_w) is node w
unfoldable pub node : Profile → Progress → ℕ → F
node p g w = pow α (nth p.subwords (open? g) w)

unfoldable pub system : Profile → Progress → ℕ → ℕ → F
system p g j = solution (unsettled p g) (node p g) (λ l. syndrome_of p (nested p g.block l) j)

-- subword i is i_w, w being how many unsettled ones stand before it
unfoldable pub fresh : Profile → Progress → ℕ → Series
fresh p g i j = system p g j (count i (open? g))

-- f with g's coefficients from a to b − 1
unfoldable pub window : ℕ → ℕ → Series → Series → Series
window a b g f j = cond (leb a j && ltb j b) (g j) (f j)

-- the rows of the unsettled subwords with S_a to S_(b−1)
unfoldable pub extend : Profile → ℕ → ℕ → Progress → Progress
extend p a b g = record {
  block = g.block;
  line = g.line;
  row = λ i. cond (ltb i p.subwords && open? g i) (window a b (fresh p g i) (g.row i)) (g.row i);
}

-- FORMAT 6.6: S_j for j from 2 × t_r up to 2 × t_(r+1) − 1
abbrev pub round : Profile → ℕ → Progress → Progress
round p r g = extend p (2 * capability p r) (2 * capability p (suc r)) g

-- ---- stages

-- every subword is settled after stage r, or decoding ended after it; with the progress after it
pub data Ending : Type 0 where
  settled : (r : ℕ) → Progress → Ending
  stopped : (r : ℕ) → Progress → Ending

-- FORMAT 6.5: none unsettled, all is settled; more than v − r unsettled, decoding ends with number 8 and stage r;
-- otherwise round r + 1 follows, and then stage r + 1
abbrev pub after : Profile → ℕ → ℕ → Progress → Ending → Ending
after p left r g later =
    cond (eqb (unsettled p g) 0) (settled r g) (cond (ltb left (unsettled p g)) (stopped r g) later)

-- with left = 0 nothing follows
unfoldable pub stages : Profile → ℕ → ℕ → Progress → Ending
stages p zero r g = after p 0 r (stage p r g) (stopped r (stage p r g))
stages p (suc left) r g = after p (suc left) r (stage p r g) (stages p left (suc r) (round p r (stage p r g)))

-- ---- the report

-- the new syndromes of stage r, from the row s
abbrev pub round_of : Profile → Series → ℕ → List F
round_of p s zero = word (2 * capability p 0) s
round_of p s (suc r) = word (2 * capability p (suc r) - 2 * capability p r) (drop (2 * capability p r) s)

unfoldable pub rounds_of : Profile → Series → ℕ → List (List F)
rounds_of p s zero = round_of p s 0 ∷ []
rounds_of p s (suc r) = rounds_of p s r ++ (round_of p s (suc r) ∷ [])

-- FORMAT 7.5: one round for each stage that a mended strip went through; none for a clean one
abbrev pub line_rounds : Profile → Series → Verdict → List (List F)
line_rounds p s clean = []
line_rounds p s (corrected k r) = rounds_of p s r

-- `rounds` says which state a solver's report holds: its last over these rounds
pub record Report : Type 0 where
  pub line : ℕ → Line
  pub rounds : ℕ → List (List F)
  pub changed : ℕ
  pub bits : ℕ
  pub last : ℕ

-- lines that are no subword's are clean
abbrev pub line_at : Progress → ℕ → Line
line_at g i = get_or (g.line i) clean_line

unfoldable pub report : Profile → ℕ → Progress → Report
report p r g = record {
  line = line_at g;
  rounds = λ i. line_rounds p (g.row i) (line_at g i).verdict;
  changed = total p.subwords (λ i. count_of (line_at g i).verdict);
  bits = total p.subwords (λ i. (line_at g i).bits);
  last = r;
}

-- ---- the outcome

pub data Outcome : Type 0 where
  accepted : Series → Report → Outcome
  failed : (stage : ℕ) → Outcome
  foreign : Outcome

-- FORMAT 4.9 and 4.10; 0 says that every question was answered by yes
abbrev pub outcome_number : Outcome → ℕ
outcome_number (accepted s x) = 0
outcome_number (failed r) = 8
outcome_number foreign = 9

-- FORMAT 4.9 and 4.10: are all strips settled when staged decoding ends? Is the block then a codeword?
abbrev pub outcome_of : Profile → Ending → Outcome
outcome_of p (stopped r g) = failed r
outcome_of p (settled r g) = cond (holds (codeword? p g.block)) (accepted g.block (report p r g)) foreign

unfoldable pub decode : Profile → Series → Outcome
decode p y = outcome_of p (stages p p.nested 0 (start p y))

-- ---- what counts mean

-- FORMAT 7.3: the number of places at which the received strip and the mended strip differ
unfoldable pub differences : Profile → Series → Series → ℕ → ℕ
differences p s t i = count p.length (λ q. not (holds (subword p.length s i q ≟ subword p.length t i q)))

-- FORMAT 7.10, wrong bits: the number of ones in received byte exclusive-or mended byte, added over the strip
unfoldable pub bit_differences : Profile → Series → Series → ℕ → ℕ
bit_differences p s t i = total p.length
    (λ q. ones (bit_xor (byte (subword p.length s i q)) (byte (subword p.length t i q))))
