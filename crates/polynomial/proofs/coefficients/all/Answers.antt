use Rattle.std.proofs.Common.{rules}
use Rattle.polynomial.specs.Polynomial.{poly-bytes}
use Rattle.polynomial.proofs.coefficients.all.Goals as goal

pub returns : goal.returns
returns c =
    let items = c.map.ensures.items in
    poly-bytes _ _ items.long (λ i h. let called = items.at i (record { 0 = 0 }) 0 h in search rules)
