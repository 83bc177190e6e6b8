-- What is written: the one codeword with the data, or nothing: FORMAT 3 and 4.
--
--   written a d o     what the output holds in the end, a being the answer to the questions, d the data and o what it
--                     held before
use Rattle.std.specs.Prelude.{ℕ, List, map, Ok, Err}
use Rattle.std.proofs.Math.Option.{Option, none, some}
use Rattle.field.specs.Field.{F, of, byte}
use Rattle.profile.specs.Definition.{Parsed}
use Rattle.code.specs.Encoding.{encoding}

-- the bytes of the word that was found; `encoding-some` says that there always is one
abbrev pub found : List ℕ → Option (List F) → List ℕ
found o (some w) = map byte w
found o none = o

abbrev pub written : Parsed → List ℕ → List ℕ → List ℕ
written (Ok p) d o = found o (encoding p (map of d))
written (Err q) d o = o
