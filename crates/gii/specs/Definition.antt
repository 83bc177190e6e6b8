-- What the functions of include/gii.h give: numbers in place of enums and structs.
--
--   Stands a i b n     the part that a fetch names stands in the block b from n on
--   form_of n          the form that the number n names
--   numbers r          the numbers of the report of a reading's result r
--   reported r b       what a buffer for the report holds in the end, b being what it held
use Rattle.std.specs.Prelude.{ℕ, zero, suc, ◌+◌, ◌≡◌, List, length}
use Rattle.profile.specs.Definition.{Parsed, unless_refused}
use Rattle.profile.specs.FetchDefinition.{between, part}
use Rattle.solver.specs.declared.Form.{Form}
use Rattle.solver.specs.declared.Form.TheVariants.{Plain, Lookahead, Scaled}
use Rattle.decoder.specs.Definition.{Result, answer_to, report_of}
use Rattle.gii.specs.NumbersDefinition.{listed, filled}

abbrev pub Stands : Parsed → ℕ → List ℕ → ℕ → Type 0
Stands a i b n = between n (n + length (part a i b)) b ≡ part a i b

abbrev pub form_of : ℕ → Form
form_of zero = Plain
form_of (suc zero) = Lookahead
form_of (suc (suc zero)) = Scaled
form_of (suc (suc (suc n))) = Plain

abbrev pub numbers : Result → List ℕ
numbers r = listed (report_of r).last (report_of r).changed (report_of r).bits (report_of r).line

-- FORMAT 7.8 and 4.1
abbrev pub reported : Result → List ℕ → List ℕ
reported r b = unless_refused (answer_to r) (filled (numbers r) b) b
