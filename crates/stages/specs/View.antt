-- How the code's values show staged decoding (Definition of staged_decoding).
--
--   shown s                   the line of a subword in this state: none while it is pending
--   solver_of s               its solver
--   pending? s                whether it is pending
--   Told s l                  the line l in the report tells of the state s: clean while the subword is pending
--   Reported states lines     .. each line of its subword
--   lines_of states           the lines that the subwords have
--   view b states t           the progress that a block, the subwords' states and a table of syndromes show
--   waiting p states          how many subwords are pending
--   so_far p i s S o          the rounds that a solver went through, o being what its subword's line is and s the next
--                             stage if it has none
--   Held p f next g states    the solvers of the states are in the form f at the end of these rounds, next i being the
--                             next stage of subword i; in the progress g what is no subword has no line
--   Before p f r g states     so it is before stage r, and the rows are zero past that stage's syndromes
--   Came p f r g b q t        after stage r of the progress g
--   Extended p r b q t u      u is the table t after round r + 1
--   Standing p f next g lines   as Held, of lines; a line that g does not have yet says clean
--   end_of e                  where decoding ended, well or not; ended e g: .. with the progress g
--   Reached p f y b e         how decoding of y ended: the block b and the lines show the progress after its last
--                             stage, whether every subword is settled or not
use Rattle.std.specs.Prelude.{ℕ, suc, ◌*◌, ◌≤◌, ◌<◌, ◌≡◌, Bool, true, false, cond, List, [], ltb, length, get_or, map}
use Rattle.std.specs.Prelude.{Result, Ok, Err}
use Rattle.std.proofs.Math.Option
use Rattle.std.proofs.Math.Option.{Option, none, some}
use Rattle.field.specs.declared.Gf.{Gf}
use Rattle.field.specs.Field.{F}
use Rattle.series.specs.Series.{Series}
use Rattle.series.specs.Degree.{below}
use Rattle.series.specs.Array.{bytes}
use Rattle.profile.specs.declared.Profile.{Profile}
use Rattle.profile.specs.Definition.{capability}
use Rattle.block.specs.Table.{table}
use Rattle.solver.specs.declared.Form.{Form}
use Rattle.solver.specs.declared.Solver.{Solver}
use Rattle.solver.specs.ContinuationDefinition.{Ended}
use Rattle.staged_decoding.specs.Definition as staged
use Rattle.staged_decoding.specs.Definition.{Progress, count, line_at, line_rounds, stage, round}
use Rattle.staged_decoding.specs.Definition.{start, stages, settled, stopped}
use Rattle.stages.specs.AttemptDefinition.{earlier}
use Rattle.extend.specs.LagrangeDefinition.{flag}
use Rattle.stages.specs.declared.report.Line.{Line}
use Rattle.stages.specs.declared.subword.State.{State}
use Rattle.stages.specs.declared.subword.State.TheVariants.{Pending, Settled}
use Rattle.stages.specs.Report.{said, says, Has}
use Rattle.stages.specs.declared.Ending.{Ending}

-- ---- a subword

abbrev pub shown : State → Option staged.Line
shown (Pending s) = none
shown (Settled l) = some (said l)

abbrev pub solver_of : State → Solver
solver_of (Pending s) = s
solver_of (Settled l) = l.solver

abbrev pub pending? : State → Bool
pending? (Pending s) = true
pending? (Settled l) = false

abbrev pub Told : State → Line → Type 0
Told s l = (said l ≡ Option.get_or (shown s) staged.clean_line) × (l.solver ≡ solver_of s)

pub record Reported (states : List State) (lines : List Line) : Type 0 where
  pub long : length lines ≡ 8
  pub told : (i : ℕ) → i < 8 → (s : State) (l : Line) → Told (get_or states i s) (get_or lines i l)

-- ---- progress

unfoldable pub lines_of : List State → ℕ → Option staged.Line
lines_of states i = get_or (map shown states) i none

unfoldable pub view : List ℕ → List State → List (List Gf) → Progress
view b states t = record { block = bytes b; line = lines_of states; row = table t }

abbrev pub waiting : Profile → List State → ℕ
waiting p states = count p.subwords (flag (map pending? states))

-- ---- solvers

abbrev pub so_far : Profile → (i s : ℕ) → Series → Option staged.Line → List (List F)
so_far p i s S none = cond (ltb i p.subwords) (earlier p S s) []
so_far p i s S (some l) = line_rounds p S l.verdict

pub record Held (p : Profile) (f : Form) (next : ℕ → ℕ) (g : Progress) (states : List State) : Type 0 where
  pub long : length states ≡ 8
  pub solvers : (i : ℕ) (s : State) → Has states i s
      → Ended f (so_far p i (next i) (g.row i) (g.line i)) (solver_of s)
  pub rest : (i : ℕ) → p.subwords ≤ i → g.line i ≡ none

pub record Before (p : Profile) (f : Form) (r : ℕ) (g : Progress) (states : List State) : Type 0 where
  pub rows : (i : ℕ) → i < p.subwords → below (2 * capability p r) (g.row i)
  pub kept : Held p f (λ _. r) g states

-- ---- a stage

-- of all subwords, with the states q and the table t
pub record Came (p : Profile) (f : Form) (r : ℕ) (g : Progress) (b : List ℕ) (q : List State)
    (t : List (List Gf)) : Type 0 where
  pub is : view b q t ≡ stage p r g
  pub kept : Held p f (λ _. suc r) (stage p r g) q

-- ---- rounds

abbrev pub Extended : Profile → ℕ → List ℕ → List State → (t u : List (List Gf)) → Type 0
Extended p r b states t u = view b states u ≡ round p r (view b states t)

-- ---- the end

pub record Standing (p : Profile) (f : Form) (next : ℕ → ℕ) (g : Progress) (lines : List Line) : Type 0 where
  pub solvers : (i : ℕ) (l : Line) → Has lines i l → Ended f (so_far p i (next i) (g.row i) (g.line i)) l.solver
  pub says : (i : ℕ) → says lines i ≡ line_at g i
  pub rest : (i : ℕ) → p.subwords ≤ i → g.line i ≡ none

abbrev pub end_of : Result Ending Ending → Ending
end_of (Ok e) = e
end_of (Err e) = e

abbrev pub ended : Result Ending Ending → Progress → staged.Ending
ended (Ok e) g = settled e.stage g
ended (Err e) g = stopped e.stage g

pub record Reached (p : Profile) (f : Form) (y b : Series) (e : Result Ending Ending) : Type 0 where
  pub last : Progress
  pub is : stages p p.nested 0 (start p y) ≡ ended e last
  pub block : last.block ≡ b
  pub long : length (end_of e).lines ≡ 8
  pub kept : Standing p f (λ _. suc (end_of e).stage) last (end_of e).lines
