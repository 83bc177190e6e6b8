-- Two pairs of stores.
use Rattle.std.proofs.Common.{rules}
use Rattle.divider.specs.Packed.{packed-tops}
use Rattle.divider.specs.MultiplesBuilding.{written-narrow}
use Rattle.divider.proofs.multiples.NarrowWidth.write.Goals as goal

pub returns : goal.returns
returns c =
    let r = c.args.r in
    let top = packed-tops r.0 r.1 r.2 r.3 r.4 r.5 (search rules) (search rules) c.requires.2 in
    rw top (written-narrow c.args.f r.2 r.3 r.4 r.5 c.two.ensures c.two-2.ensures)
