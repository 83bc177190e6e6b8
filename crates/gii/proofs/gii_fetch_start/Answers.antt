-- The questions say yes, so the profile is accepted and i is a byte.
use Rattle.std.proofs.Common.{arith, length, sym, ◌∙◌}
use Rattle.profile.specs.Questions.{fetching}
use Rattle.gii.specs.Laws.{fetched-small, start-accepted, start-refused, part-stands}
use Rattle.gii.proofs.gii_fetch_start.Goals as goal

pub overflow_cast-i : goal.overflow_cast-i
overflow_cast-i c =
    let yes = sym c.answer.ensures ∙ c.in-Ok.is in
    let small = fetched-small c.args.profile.now _ _ yes
    (λ k. omega (arith, c.type_inv.profile k)) in
    record { fits = small }

pub returns-in-Ok : goal.returns-in-Ok
returns-in-Ok c =
    let given = c.args in
    let is = start-accepted given.profile.now _ given.i _
    (sym c.answer.ensures ∙ c.in-Ok.is) c.accepted_start.ensures in record {
      value = is;
      part = part-stands (fetching given.profile.now (length given.block.now) given.i)
          given.i _ given.block.now is;
    }

pub returns-in-Err : goal.returns-in-Err
returns-in-Err c =
    let given = c.args in
    let is =
    start-refused given.profile.now _ given.i _ (sym c.answer.ensures ∙ c.in-Err.is) in record {
      value = is;
      part = part-stands (fetching given.profile.now (length given.block.now) given.i)
          given.i _ given.block.now is;
    }
