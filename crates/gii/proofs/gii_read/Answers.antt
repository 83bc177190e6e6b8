-- Refused, or read.
use Rattle.std.proofs.Common.{ap, sym, ◌∙◌}
use Rattle.decoder.specs.Definition.{result_of, answer_to, data_in}
use Rattle.gii.specs.NumbersDefinition.{result_number}
use Rattle.gii.proofs.gii_read.Goals as goal

pub read_data-requires : goal.read_data-requires
read_data-requires c = sym c.admit.ensures ∙ c.in-Ok.is

pub returns-in-Err : goal.returns-in-Err
returns-in-Err c =
    let given = c.args in
    let no = sym c.admit.ensures ∙ c.in-Err.is in
    let is = ap (λ a. result_of a given.block.now) no in
    let told = c.refuse.ensures in record {
      result = told.result ∙ ap (λ r. result_number (answer_to r)) (sym is);
      «data» = told.same ∙ ap (λ r. data_in r given.«data».now) (sym is);
    }
