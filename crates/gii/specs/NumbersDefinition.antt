-- The numbers of answers and reports, in place of enums and structs.
--
--   stage_of a         the stage that an 8 says, 0 with any other number
--   line_numbers v     the three numbers of a verdict; lines_numbers n f: those of the lines f 0 to f (n − 1)
--   two_bytes n        the number n in two bytes, high byte first
--   bits_numbers n f   the changed bits of these lines, each in two bytes
--   result_number a    the number of the answer a, and 256 times its stage
--   listed r c w f     the numbers of a report: r is the last stage, c the changed symbols, w the changed bits, f the
--                      lines
--   filled l b         the buffer b after as many of the numbers l as it has room for were written to it
use Rattle.std.specs.Prelude.{ℕ, zero, suc, ◌+◌, ◌*◌, ◌/◌, ◌%◌, List, [], ◌∷◌, ◌++◌, length, take, drop, Ok, Err}
use Rattle.profile.specs.declared.Refusal.{Refusal}
use Rattle.profile.specs.declared.Refusal.TheVariants.{ProfileSize, Subwords, Nested, Capabilities}
use Rattle.profile.specs.declared.Refusal.TheVariants.{EqualCapabilities, Length, FirstRoot, InputSize}
use Rattle.profile.specs.declared.Refusal.TheVariants.{OutputSize, Unsettled, NotCodeword, Subword}
use Rattle.profile.specs.Definition.{Answer, answer_number}
use Rattle.staged_decoding.specs.Definition.{Verdict, clean, corrected, Line}

-- of a refusal
abbrev pub unsettled_stage : Refusal → ℕ
unsettled_stage ProfileSize = 0
unsettled_stage Subwords = 0
unsettled_stage Nested = 0
unsettled_stage Capabilities = 0
unsettled_stage EqualCapabilities = 0
unsettled_stage Length = 0
unsettled_stage FirstRoot = 0
unsettled_stage InputSize = 0
unsettled_stage OutputSize = 0
unsettled_stage (Unsettled r) = r
unsettled_stage NotCodeword = 0
unsettled_stage Subword = 0

abbrev pub stage_of : Answer → ℕ
stage_of (Ok tt) = 0
stage_of (Err q) = unsettled_stage q

-- FORMAT 4.15
abbrev pub result_number : Answer → ℕ
result_number a = answer_number a + 256 * stage_of a

abbrev pub line_numbers : Verdict → List ℕ
line_numbers clean = 0 ∷ 0 ∷ 0 ∷ []
line_numbers (corrected k r) = 1 ∷ k ∷ r ∷ []

abbrev pub lines_numbers : ℕ → (ℕ → Line) → List ℕ
lines_numbers zero f = []
lines_numbers (suc n) f = lines_numbers n f ++ line_numbers (f n).verdict

abbrev pub two_bytes : ℕ → List ℕ
two_bytes n = n / 256 ∷ n % 256 ∷ []

abbrev pub bits_numbers : ℕ → (ℕ → Line) → List ℕ
bits_numbers zero f = []
bits_numbers (suc n) f = bits_numbers n f ++ two_bytes (f n).bits

abbrev pub head_numbers : (last changed : ℕ) → List ℕ
head_numbers r c = r ∷ two_bytes c

-- FORMAT 7.8: 27 of them, and 18 that came later
abbrev pub listed : (last changed bits : ℕ) → (ℕ → Line) → List ℕ
listed r c w f = ((head_numbers r c ++ lines_numbers 8 f) ++ two_bytes w) ++ bits_numbers 8 f

-- what is not written stays
abbrev pub filled : List ℕ → List ℕ → List ℕ
filled l b = take (length b) l ++ drop (length l) b
