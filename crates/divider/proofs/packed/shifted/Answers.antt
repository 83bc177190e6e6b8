-- One symbol up, and the other added.
use Rattle.std.proofs.Common.{arith}
use Rattle.divider.specs.Packed.{Word, six_shifted}
use Rattle.divider.proofs.packed.shifted.Goals as goal

pub returns : goal.returns
returns c =
    let r = c.args.r in
    let m = c.args.m in
    let h0 : Word r.0 = omega (arith, c.well_formed.0) in
    let h1 : Word r.1 = omega (arith, c.well_formed.0) in
    let h2 : Word r.2 = omega (arith, c.well_formed.0) in
    let h3 : Word r.3 = omega (arith, c.well_formed.0) in
    let h4 : Word r.4 = omega (arith, c.well_formed.0) in
    let h5 : Word r.5 = omega (arith, c.well_formed.0) in
    six_shifted r.0 r.1 r.2 r.3 r.4 r.5 m.0 m.1 m.2 m.3 m.4 m.5 h0 h1 h2 h3 h4 h5
