-- Refused, or written.
use Rattle.std.proofs.Common.{ap, arith, sym, ◌∙◌}
use Rattle.profile.specs.Definition.{answer_of}
use Rattle.profile.specs.Valid.{writing-passed}
use Rattle.encoder.specs.Definition.{written}
use Rattle.encoder.specs.Laws.{written_is}
use Rattle.encoder.proofs.encode.Goals as goal

pub write-requires : goal.write-requires
write-requires c =
    let yes = sym c.admit.ensures ∙ c.in-Ok.is in
    let (ok, input, output) = writing-passed c.args.profile.now _ _ _ yes (omega arith) in
    (record { valid = ok; size = output }, input)

pub returns-in-Ok : goal.returns-in-Ok
returns-in-Ok c =
    let yes = sym c.admit.ensures ∙ c.in-Ok.is in
    let (ok, input, output) = writing-passed c.args.profile.now _ _ _ yes (omega arith) in record {
      answer = sym (ap answer_of yes);
      block = written_is _ ok _ _ _ _ yes (omega (arith, c.out-1.given, output))
          (λ i. omega (arith, c.slice_known-in-Ok-1.given i))
          c.write.ensures;
    }

pub returns-in-Err : goal.returns-in-Err
returns-in-Err c =
    let refuse = c.refuse in
    let no = sym c.admit.ensures ∙ c.in-Err.is in record {
      answer = refuse.ensures.answer ∙ sym (ap answer_of no);
      block = refuse.ensures.same ∙ sym (ap (λ a. written a c.args.«data».now c.args.out.now) no);
    }
