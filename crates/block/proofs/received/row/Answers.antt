-- The values of the remainder.
use Rattle.std.proofs.Common.{arith, length, length-take-le, rules, sym, ◌∙◌, ◌≡◌}
use Rattle.divider.specs.ReedSolomonResidue.{residue-syndromes}
use Rattle.block.proofs.received.row.Goals as goal

pub slice_bounds-at_roots-end : goal.slice_bounds-at_roots-end
slice_bounds-at_roots-end c =
    let long : length c.args.r ≡ 48 = search rules in
    sym (length-take-le c.args.k c.args.r (omega (arith, long, c.requires)))

pub returns : goal.returns
returns c =
    let long : length c.args.r ≡ 48 = search rules in
    λ n w is. c.at_roots.ensures
    ∙ residue-syndromes c.args.first n c.args.k w (omega (arith, c.requires))
    c.args.r (omega (arith, long, c.requires)) is
