-- Profiles, refusals with their numbers, and sizes.
--
--   capability p r   t_r, 0 past t_3
--   first-root p     f: the first root is α^f
--   last p           t_v
--   Parsed, Answer   a profile or a refusal; nothing or a refusal
--   answer_of a      the answer alone
--   number_of q      the number of a refusal; answer_number a: 0, or that of the refusal
--   unless_refused a x o   x, or o if the answer a is a refusal
--   checks p i       the check symbols of subword i
--   block_size p, data_size p   the symbols and the data symbols of a block
--   data_start p i   the data symbols before subword i
use Rattle.std.specs.Prelude.{ℕ, zero, suc, ◌+◌, ◌-◌, ◌*◌, cond, List, ltb, Result, Ok, Err}
use Rattle.profile.specs.declared.Profile.{Profile}
use Rattle.profile.specs.declared.Refusal.{Refusal}
use Rattle.profile.specs.declared.Refusal.TheVariants.{ProfileSize, Subwords, Nested, Capabilities}
use Rattle.profile.specs.declared.Refusal.TheVariants.{EqualCapabilities, Length, FirstRoot, InputSize}
use Rattle.profile.specs.declared.Refusal.TheVariants.{OutputSize, Unsettled, NotCodeword, Subword}

abbrev pub capability : Profile → ℕ → ℕ
capability p zero = p.t0
capability p (suc zero) = p.t1
capability p (suc (suc zero)) = p.t2
capability p (suc (suc (suc zero))) = p.t3
capability p (suc (suc (suc (suc r)))) = 0

abbrev pub last : Profile → ℕ
last p = capability p p.nested

abbrev pub first-root : Profile → ℕ
first-root p = p.first_root

-- ---- answers

-- a profile, or the refusal that says why the bytes are none
abbrev pub Parsed : Type 0
Parsed = Result Profile Refusal

-- every question was answered by yes, or the first no
abbrev pub Answer : Type 0
Answer = Result Unit Refusal

abbrev pub answer_of : Parsed → Answer
answer_of (Ok p) = Ok tt
answer_of (Err q) = Err q

abbrev pub number_of : Refusal → ℕ
number_of ProfileSize = 1
number_of Subwords = 2
number_of Nested = 3
number_of Capabilities = 4
number_of EqualCapabilities = 15
number_of Length = 5
number_of FirstRoot = 14
number_of InputSize = 6
number_of OutputSize = 7
number_of (Unsettled r) = 8
number_of NotCodeword = 9
number_of Subword = 10

-- 0 says that every question was answered by yes
abbrev pub answer_number : Answer → ℕ
answer_number (Ok tt) = 0
answer_number (Err q) = number_of q

-- FORMAT 4.1: what a buffer holds in the end, x being what an accepted call gives, and o what it held
abbrev pub unless_refused : Answer → List ℕ → List ℕ → List ℕ
unless_refused (Ok tt) x o = x
unless_refused (Err q) x o = o

-- ---- sizes

abbrev pub block_size : Profile → ℕ
block_size p = p.subwords * p.length

-- FORMAT 2.4: 2 × t_(v−i) for the first v subwords, 2 × t0 for the others
abbrev pub checks : Profile → ℕ → ℕ
checks p i = 2 * cond (ltb i p.nested) (capability p (p.nested - i)) p.t0

-- t_1 + .. + t_r
abbrev pub capability_sum : Profile → ℕ → ℕ
capability_sum p zero = 0
capability_sum p (suc r) = capability_sum p r + capability p (suc r)

-- FORMAT 2.5
abbrev pub data_size : Profile → ℕ
data_size p = block_size p - 2 * capability_sum p p.nested - 2 * ((p.subwords - p.nested) * p.t0)

-- ---- positions

-- FORMAT 3.6: positions below `checks p i` of subword i hold its check symbols, those from there on its data
abbrev pub data_length : Profile → ℕ → ℕ
data_length p i = p.length - checks p i

-- FORMAT 3.7: position `checks p i + q` of subword i holds data symbol `data_start p i + q`
abbrev pub data_start : Profile → ℕ → ℕ
data_start p zero = 0
data_start p (suc i) = data_start p i + data_length p i
