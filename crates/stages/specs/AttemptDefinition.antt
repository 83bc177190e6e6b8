-- A stage of a subword that is not settled, and where its solver must stand for it.
--
--   seen_before p r   how many syndromes the stages before stage r look at
--   earlier p S r     these stages, taken as rounds of the row S
--   Ready p f r S s   s is a solver in the form f, at the end of these rounds; and S is zero past the syndromes that
--                     stage r looks at
--   Tried h t n S s a a is the answer of settling, the first root being α^h, with what the solver s has found: sound,
--                     whatever s is; and the pattern that settles the subword, if s is at the end of rounds that are
--                     the first 2t syndromes of S
use Rattle.std.specs.Prelude.{ℕ, zero, suc, ◌*◌, ◌≡◌, List, [], Option, IfSome}
use Rattle.field.specs.Field.{F}
use Rattle.series.specs.Series.{Series}
use Rattle.series.specs.Degree.{below}
use Rattle.series.specs.Word.{word}
use Rattle.key_equation.specs.Run.{joined}
use Rattle.profile.specs.declared.Profile.{Profile}
use Rattle.profile.specs.Definition.{capability}
use Rattle.solver.specs.declared.Form.{Form}
use Rattle.solver.specs.declared.Solver.{Solver}
use Rattle.settling.specs.Definition.{settle}
use Rattle.settle.specs.declared.Settled.{Settled}
use Rattle.settle.specs.Answer.{answer, Sound}
use Rattle.staged_decoding.specs.Definition.{rounds_of}
use Rattle.solver.specs.ContinuationDefinition.{Ended}

abbrev pub seen_before : Profile → ℕ → ℕ
seen_before p zero = 0
seen_before p (suc r) = 2 * capability p r

abbrev pub earlier : Profile → Series → ℕ → List (List F)
earlier p S zero = []
earlier p S (suc r) = rounds_of p S r

pub record Ready (p : Profile) (f : Form) (r : ℕ) (S : Series) (s : Solver) : Type 0 where
  pub ended : Ended f (earlier p S r) s
  pub past : below (2 * capability p r) S

abbrev pub Tried : (h t n : ℕ) → Series → Solver → Option Settled → Type 0
Tried h t n S s a =
    IfSome a (Sound h t n S)
    × ((f : Form) (rounds : List (List F)) → Ended f rounds s → joined rounds ≡ word (2 * t) S
    → answer n a ≡ settle h t n S)
