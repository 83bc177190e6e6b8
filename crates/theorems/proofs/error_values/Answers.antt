-- What the report holds, and both values from it.
use Rattle.std.proofs.Common.{arith}
use Rattle.theorems.specs.declared.Values.{Values}
use Rattle.theorems.specs.Theorems.{sum_of}
use Rattle.theorems.proofs.error_values.Goals as goal

pub returns : goal.returns
returns c =
    let given = c.args in
    let a = c.decode-r.ensures in
    let t : Values = record {
      read = c.decode-r.result;
      evaluator = c.by_evaluator.result;
      auxiliary = c.by_auxiliary.result;
    } in
    sum_of _ given.profile.now given.input.now given.out.now _ given.i _ _ _ _ t _
    (record { answer = a.answer; block = a.block; report = a.report })
    (λ j. omega (arith, c.type_inv.profile j))
    c.by_evaluator.ensures c.by_auxiliary.ensures
