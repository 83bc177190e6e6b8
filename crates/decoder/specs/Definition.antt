-- What is read: the questions, then staged decoding: FORMAT 4 and 6.
--
--   Result            a block with its report, or a refusal
--   concluded p x     the result of an outcome of staged decoding
--   reading b y o     the result for the bytes b of a profile, an input y and an output of o bytes for the block
--   extraction b y o  .. and an output of o bytes for its data
--   answer_to r       what is answered
--   block_of r o, data_in r o   what the output for the block, and that for the data, holds in the end, o being what it
--                     held
--   report_of r       what is reported
--   Gives f r o e a   that is what the reading a gives for the result r, the output being o before and e in the end;
--                     GivesData: the output being for the data
use Rattle.std.specs.Prelude.{ℕ, ◌≡◌, List, map, length, Ok, Err}
use Rattle.field.specs.Field.{byte}
use Rattle.series.specs.Series.{Series}
use Rattle.series.specs.Array.{bytes}
use Rattle.series.specs.Word.{word}
use Rattle.profile.specs.declared.Profile.{Profile}
use Rattle.profile.specs.declared.Refusal.{Refusal}
use Rattle.profile.specs.declared.Refusal.TheVariants.{Unsettled, NotCodeword}
use Rattle.profile.specs.Definition.{Parsed, Answer, block_size}
use Rattle.profile.specs.Questions.{reading_of, extracting}
use Rattle.block.specs.Gather.{data_of}
use Rattle.solver.specs.declared.Form.{Form}
use Rattle.staged_decoding.specs.Definition as staged
use Rattle.staged_decoding.specs.Definition.{Outcome, accepted, failed, foreign, decode}
use Rattle.staged_decoding.specs.Clean.{untouched}
use Rattle.stages.specs.Report.{Tells}
use Rattle.decoder.specs.declared.prepared.Reading.{Reading}

pub data Result : Type 0 where
  read : Profile → Series → staged.Report → Result
  refused : Refusal → Result

-- FORMAT 4.9 and 4.10: every subword is settled, and the settled block is a codeword
abbrev pub concluded : Profile → Outcome → Result
concluded p (accepted s x) = read p s x
concluded p (failed r) = refused (Unsettled r)
concluded p foreign = refused NotCodeword

abbrev pub result_of : Parsed → List ℕ → Result
result_of (Ok p) y = concluded p (decode p (bytes y))
result_of (Err q) y = refused q

abbrev pub reading : List ℕ → List ℕ → ℕ → Result
reading b y o = result_of (reading_of b (length y) o) y

abbrev pub extraction : List ℕ → List ℕ → ℕ → Result
extraction b y o = result_of (extracting b (length y) o) y

-- ---- what is said of a result

abbrev pub answer_to : Result → Answer
answer_to (read p s x) = Ok tt
answer_to (refused q) = Err q

-- a refusal leaves the output as it was
abbrev pub block_of : Result → List ℕ → List ℕ
block_of (read p s x) o = map byte (word (block_size p) s)
block_of (refused q) o = o

-- FORMAT 3.7: the data as they were written
abbrev pub data_in : Result → List ℕ → List ℕ
data_in (read p s x) o = data_of p (map byte (word (block_size p) s))
data_in (refused q) o = o

-- a refusal comes with the report of an untouched block: clean lines, nothing changed, stage 0
abbrev pub report_of : Result → staged.Report
report_of (read p s x) = x
report_of (refused q) = untouched

pub record Gives (f : Form) (r : Result) (o e : List ℕ) (a : Reading) : Type 0 where
  pub answer : a.answer ≡ answer_to r
  pub block : e ≡ block_of r o
  pub report : Tells f (report_of r) a.report

abbrev pub GivesData : Form → Result → (o e : List ℕ) → Reading → Type 0
GivesData f r o e a = (a.answer ≡ answer_to r) × (e ≡ data_in r o) × Tells f (report_of r) a.report
