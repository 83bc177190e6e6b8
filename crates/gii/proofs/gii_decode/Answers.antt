-- The answer and its report as numbers.
use Rattle.std.proofs.Common.{ap, length, ◌∙◌}
use Rattle.decoder.specs.Definition.{reading, answer_to}
use Rattle.gii.specs.NumbersDefinition.{result_number}
use Rattle.gii.specs.Laws.{numbers-filled}
use Rattle.gii.proofs.gii_decode.Goals as goal

pub returns : goal.returns
returns c =
    let given = c.args in
    let r = reading given.profile.now given.input.now (length given.out.now) in
    let told = c.decode-r.ensures in
    let filled =
    numbers-filled _ r c.decode-r.result.report _ _ given.report.now _ told.answer told.report
    c.list_of-list.ensures c.fill_if.ensures in
    record {
      result = c.result_of.ensures ∙ ap result_number {y = answer_to r} told.answer;
      block = told.block;
      report = filled;
    }
