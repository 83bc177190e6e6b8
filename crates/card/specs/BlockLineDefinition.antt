-- The line of a block: FORMAT 9.4.
--
--   line i r          the line of block i, r being what reading it came to
--   block_line p i y  .. which holds y
--   told i a r c w    the line of block i, from what is answered and reported
--   Made s t u        t and u are the tables for the section s, if it is a block
--   Kept s t u        .. if it is a block, and not the first
use Rattle.std.specs.Prelude.{ℕ, ◌<◌, List, Ok, Err}
use Rattle.series.specs.Array.{bytes}
use Rattle.profile.specs.declared.Profile.{Profile}
use Rattle.profile.specs.Definition.{Answer, number_of}
use Rattle.block.specs.CodewordDefinition.{Tables}
use Rattle.staged_decoding.specs.Definition.{decode}
use Rattle.decoder.specs.Definition.{Result, read, refused, concluded}
use Rattle.listing.specs.Definition.{ok_line, refused_line}
use Rattle.card.specs.declared.section.Section.{Section}
use Rattle.card.specs.declared.section.Section.TheVariants.{Size, Bytes, Count, Block, End, Over}

-- its number and `ok`, the last stage, the changed symbols and the changed bits; or `refused` and the number of the
-- refusal
abbrev pub line : ℕ → Result → List ℕ
line i (read p s x) = ok_line i x.last x.changed x.bits
line i (refused q) = refused_line i (number_of q)

unfoldable pub block_line : Profile → ℕ → List ℕ → List ℕ
block_line p i y = line i (concluded p (decode p (bytes y)))

abbrev pub told : ℕ → Answer → (r c w : ℕ) → List ℕ
told i (Ok tt) r c w = ok_line i r c w
told i (Err q) r c w = refused_line i (number_of q)

abbrev pub Made : Section → List ℕ → List ℕ → Type 0
Made Size t u = Unit
Made (Bytes n) t u = Unit
Made (Count p) t u = Unit
Made (Block p i k) t u = Tables p t u
Made End t u = Unit
Made Over t u = Unit

abbrev pub Kept : Section → List ℕ → List ℕ → Type 0
Kept Size t u = Unit
Kept (Bytes n) t u = Unit
Kept (Count p) t u = Unit
Kept (Block p i k) t u = 0 < i → Tables p t u
Kept End t u = Unit
Kept Over t u = Unit
