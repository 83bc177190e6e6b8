-- Refused, or read.
use Rattle.std.proofs.Common.{ap, arith, sym, ◌∙◌}
use Rattle.profile.specs.Valid.{reading-passed}
use Rattle.decoder.specs.Definition.{result_of}
use Rattle.decoder.specs.Laws.{gives-refused, gives_as}
use Rattle.decoder.proofs.decode.Goals as goal

pub read-requires : goal.read-requires
read-requires c =
    let yes = sym c.admit.ensures ∙ c.in-Ok.is in
    let (ok, input, output) = reading-passed c.args.profile.now _ _ _ yes (omega arith) in
    (record { valid = ok; size = input }, output ∙ sym input)

pub returns-in-Ok : goal.returns-in-Ok
returns-in-Ok c =
    let yes = sym c.admit.ensures ∙ c.in-Ok.is in
    let is = ap (λ a. result_of a c.args.input.now) yes in
    let read = c.read in
    let gives = gives_as c.args.form _ _ _ _ read.result is read.ensures in
    record {
      answer = gives.answer;
      block = gives.block;
      report = gives.report;
    }

pub returns-in-Err : goal.returns-in-Err
returns-in-Err c =
    let no = sym c.admit.ensures ∙ c.in-Err.is in
    let is = ap (λ a. result_of a c.args.input.now) no in
    let refuse = c.refuse in
    let form = c.args.form in
    let said = refuse.ensures in
    let refused = gives-refused form _ _ _ refuse.result said.answer said.same said.report in
    let gives = gives_as form _ _ _ _ refuse.result is refused in
    record {
      answer = gives.answer;
      block = gives.block;
      report = gives.report;
    }
