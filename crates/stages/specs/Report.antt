-- What a report says: FORMAT 7.
--
--   verdict_of v       what a verdict says
--   said l             what a line says of its subword
--   says lines i       what line i says; clean where there is no such line
--   Has xs i x         x stands at i
--   Started f lines    eight lines at their start
--   Counted m lines    none of the first m lines has more bits than a subword of 255 symbols
--   Tells f x r        the report r says what x says, each solver in the form f at the end of its subword's rounds
use Rattle.std.specs.Prelude.{ℕ, ◌≤◌, ◌<◌, ◌≡◌, List, [], map, length, get_or}
use Rattle.solver.specs.declared.Form.{Form}
use Rattle.solver.specs.ContinuationDefinition.{Ended}
use Rattle.staged_decoding.specs.Definition as staged
use Rattle.stages.specs.declared.report.Verdict.{Verdict}
use Rattle.stages.specs.declared.report.Verdict.TheVariants.{Clean, Corrected}
use Rattle.stages.specs.declared.report.Line.{Line}
use Rattle.stages.specs.declared.report.Report.{Report}

abbrev pub verdict_of : Verdict → staged.Verdict
verdict_of Clean = staged.clean
verdict_of (Corrected k r) = staged.corrected k r

abbrev pub said : Line → staged.Line
said l = record { verdict = verdict_of l.verdict; bits = l.bits }

unfoldable pub says : List Line → ℕ → staged.Line
says lines i = get_or (map said lines) i staged.clean_line

abbrev pub Has : {A : Type 0} → List A → ℕ → A → Type 0
Has {A} xs i x = (i < length xs) × ((d : A) → get_or xs i d ≡ x)

pub record Started (f : Form) (lines : List Line) : Type 0 where
  pub long : length lines ≡ 8
  pub solvers : (i : ℕ) (l : Line) → Has lines i l → Ended f [] l.solver
  pub says : (i : ℕ) → says lines i ≡ staged.clean_line

abbrev pub Counted : ℕ → List Line → Type 0
Counted m lines = (i : ℕ) → i < m → (says lines i).bits ≤ 2040

pub record Tells (f : Form) (x : staged.Report) (r : Report) : Type 0 where
  pub long : length r.lines ≡ 8
  pub lines : (i : ℕ) → says r.lines i ≡ x.line i
  pub changed : r.changed ≡ x.changed
  pub bits : r.bits ≡ x.bits
  pub last : r.last ≡ x.last
  pub solvers : (i : ℕ) (l : Line) → Has r.lines i l → Ended f (x.rounds i) l.solver
