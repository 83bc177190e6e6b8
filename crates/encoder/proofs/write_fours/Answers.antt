use Rattle.std.proofs.Common.{arith, ◌*◌, ◌+◌, ◌-◌, ◌≡◌}
use Rattle.encoder.specs.Write.{down-none, down-at}
use Rattle.encoder.proofs.write_fours.Goals as goal

pub loop-q-init : goal.loop-q-init
loop-q-init c = down-at (omega arith) (down-none c.requires.0 c.requires.1)

pub write_four-end-requires : goal.write_four-end-requires
write_four-end-requires c =
    let now = c.loop-q in
    let m = c.args.p.subwords in
    let back : m - 4 * now.q ≡ m - 4 * (now.q + 1) + 4 = omega arith in
    (down-at back now.invariant, omega arith, c.requires.2, c.requires.3)
