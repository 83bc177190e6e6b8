-- Two polynomials, a bar and the scalars.
use Rattle.listing.specs.Laws.{appended_then}
use Rattle.test_support.specs.State.{part_text}
use Rattle.test_support.proofs.state.part.Goals as goal

pub returns : goal.returns
unfolding part_text
returns g c =
    let two = appended_then c.polynomial.ensures c.polynomial-2.ensures in
    appended_then (appended_then two c.put.ensures) c.numbers.ensures
