-- Sizes and places of a profile that may be refused.
--
--   if_accepted f a    what f says of an accepted profile, 0 for a refused one
--   start p i          where the data of subword i start in a block
use Rattle.std.specs.Prelude.{ℕ, ◌+◌, ◌*◌, Ok, Err}
use Rattle.profile.specs.declared.Profile.{Profile}
use Rattle.profile.specs.Definition.{Parsed, checks}

abbrev pub if_accepted : (Profile → ℕ) → Parsed → ℕ
if_accepted f (Ok p) = f p
if_accepted f (Err q) = 0

-- after the check symbols
abbrev pub start : Profile → ℕ → ℕ
start p i = i * p.length + checks p i
