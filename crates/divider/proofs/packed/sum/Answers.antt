-- Exclusive or of six words.
use Rattle.divider.specs.Packed.{six-xor}
use Rattle.divider.proofs.packed.sum.Goals as goal

pub returns : goal.returns
returns c =
    let given =
    c.args in
    let a = given.a in
    let b = given.b in (
      six-xor a.0 a.1 a.2 a.3 a.4 a.5 b.0 b.1 b.2 b.3 b.4 b.5,
      six-xor 0 0 a.2 a.3 a.4 a.5 0 0 b.2 b.3 b.4 b.5,
    )
