-- Refused, or read and handed out.
use Rattle.std.proofs.Common.{ap, arith, sym, ◌∙◌}
use Rattle.profile.specs.Valid.{extracting-passed}
use Rattle.decoder.specs.Definition.{result_of}
use Rattle.decoder.specs.Extraction.{data_as}
use Rattle.decoder.proofs.extract.Goals as goal

pub read_data-requires : goal.read_data-requires
read_data-requires c =
    let yes = sym c.admit.ensures ∙ c.in-Ok.is in
    let (ok, input, output) = extracting-passed c.args.profile.now _ _ _ yes (omega arith) in
    (record { valid = ok; size = input }, output)

pub returns-in-Ok : goal.returns-in-Ok
returns-in-Ok c =
    let yes = sym c.admit.ensures ∙ c.in-Ok.is in
    let is = ap (λ a. result_of a c.args.input.now) yes in
    let read = c.read_data in
    let (answer, handed, report) = data_as c.args.form _ _ _ _ read.result is read.ensures in
    record {
      answer = answer;
      «data» = handed;
      report = report;
    }

pub returns-in-Err : goal.returns-in-Err
returns-in-Err c =
    let no = sym c.admit.ensures ∙ c.in-Err.is in
    let is = ap (λ a. result_of a c.args.input.now) no in
    let refuse = c.refuse in
    let said = refuse.ensures in
    let (answer, kept, report) = data_as c.args.form _ _ _ _ refuse.result is (said.answer, said.same, said.report) in
    record {
      answer = answer;
      «data» = kept;
      report = report;
    }
