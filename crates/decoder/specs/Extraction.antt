-- Handing out the data of a block that was read.
--
-- Proved: by the answer of a reading, what is handed out is what the definition says (handed-is); so it is for a result
-- by another name (data_as).
use Rattle.std.specs.Prelude.{ℕ, ◌≡◌, List}
use Rattle.std.proofs.Common.{sym, ap, ap₂, subst}
use Rattle.profile.specs.declared.Profile.{Profile}
use Rattle.profile.specs.Definition.{unless_refused}
use Rattle.block.specs.Gather.{data_of}
use Rattle.solver.specs.declared.Form.{Form}
use Rattle.staged_decoding.specs.Definition.{Outcome, accepted, failed, foreign}
use Rattle.decoder.specs.declared.prepared.Reading.{Reading}
use Rattle.decoder.specs.Definition.{Result, concluded, data_in, Gives, GivesData}

-- e is what was read, out what the output for the data held
pub handed-is : (p : Profile) (f : Form) (z : Outcome) (o e out : List ℕ) (a : Reading)
    → Gives f (concluded p z) o e a
    → unless_refused a.answer (data_of p e) out ≡ data_in (concluded p z) out
handed-is p f (accepted s x) o e out a g = ap₂ (λ a e. unless_refused a (data_of p e) out) g.answer g.block
handed-is p f (failed r) o e out a g = ap (λ a. unless_refused a (data_of p e) out) g.answer
handed-is p f foreign o e out a g = ap (λ a. unless_refused a (data_of p e) out) g.answer

pub data_as : (f : Form) (r q : Result) (o e : List ℕ) (a : Reading) → r ≡ q → GivesData f q o e a → GivesData f r o e a
data_as f r q o e a same = subst (λ r. GivesData f r o e a) (sym same)
