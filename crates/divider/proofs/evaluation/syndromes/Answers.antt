-- The values of the remainder.
use Rattle.std.proofs.Common.{arith, length, length-take-le, rules, sym, ◌∙◌, ◌≡◌}
use Rattle.divider.specs.ReedSolomonResidue.{residue-syndromes}
use Rattle.divider.proofs.evaluation.syndromes.Goals as goal

pub slice_bounds-at_roots-end : goal.slice_bounds-at_roots-end
slice_bounds-at_roots-end c =
    let long : length c.residue-r.result ≡ 48 = search rules in
    sym (length-take-le c.args.k c.residue-r.result (omega (arith, long, c.requires.1)))

pub returns : goal.returns
returns c =
    let residue = c.residue-r in
    let long : length residue.result ≡ 48 = search rules in
    c.at_roots.ensures
    ∙ residue-syndromes c.args.first (length c.args.word.now) c.args.k _
    (omega (arith, c.requires.1)) residue.result
    (omega (arith, long, c.requires.1)) residue.ensures
