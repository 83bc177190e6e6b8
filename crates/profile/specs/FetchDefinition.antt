-- The data of a subword, as a part of the caller's own block: FORMAT 5.
--
--   between a e l     the entries of l from a up to e
--   part a i block    the data symbols of subword i as they stand in the block, none if refused
--   empty l           l has no entries
--   refuses a         the answer is a refusal
use Rattle.std.specs.Prelude.{ℕ, ◌+◌, ◌-◌, ◌*◌, Bool, true, false, List, [], ◌∷◌, take, drop, Ok, Err}
use Rattle.profile.specs.Definition.{Parsed, Answer, checks}

abbrev pub between : ℕ → ℕ → List ℕ → List ℕ
between a e l = take (e - a) (drop a l)

-- the data positions of subword i: from its check symbols to its end
abbrev pub part : Parsed → ℕ → List ℕ → List ℕ
part (Ok p) i block = between (i * p.length + checks p i) ((i + 1) * p.length) block
part (Err q) i block = []

abbrev pub empty : List ℕ → Bool
empty [] = true
empty (x ∷ l) = false

abbrev pub refuses : Answer → Bool
refuses (Ok tt) = false
refuses (Err q) = true
