-- A verdict by cases.
use Rattle.std.proofs.Common.{ap, sym}
use Rattle.stages.specs.Report.{verdict_of}
use Rattle.gii.specs.NumbersDefinition.{line_numbers}
use Rattle.gii.proofs.numbers.line_numbers.Goals as goal

pub returns-in-Corrected : goal.returns-in-Corrected
returns-in-Corrected c = ap (λ v. line_numbers (verdict_of v)) (sym c.in-Corrected.is)
