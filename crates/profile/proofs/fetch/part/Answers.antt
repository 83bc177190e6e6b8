-- What is fetched from is a block, and n is a byte.
use Rattle.std.proofs.Common.{arith, sym, ◌∙◌}
use Rattle.profile.specs.FetchLaws.{accepted}
use Rattle.profile.proofs.fetch.part.Goals as goal

pub positions-requires : goal.positions-requires
positions-requires c =
    let given = c.args in
    accepted given.profile.now _ given.i _ (sym c.admit.ensures ∙ c.in-Ok.is) (omega arith)
