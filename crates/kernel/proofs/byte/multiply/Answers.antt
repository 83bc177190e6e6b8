-- Bit by bit, p is what stands of b so far, times the double that goes with it.
use Rattle.std.proofs.Common.{arith, rules, ◌/◌, ◌<◌, ◌∙◌}
use Rattle.field.specs.Field.{⊙_comm}
use Rattle.kernel.specs.ByteMultiply.{Times, times-first, times_more}
use Rattle.kernel.proofs.byte.multiply.Goals as goal

pub returns : goal.returns
returns c =
    let a = c.args.a in
    let b = c.args.b in
    let small : b < 256 = search rules in
    let e7 : Times c.twice-a7.result (b / 128) c.pick-p7.result =
    times-first _ _ _ _ c.pick-p7.ensures (omega arith) in
    let e6 : Times c.twice-a6.result (b / 64) c.pick-p6.result =
    times_more _ _ _ _ _ _ _ (omega arith) (omega arith) (omega arith) c.twice-a7.ensures e7 c.pick-p6.ensures in
    let e5 : Times c.twice-a5.result (b / 32) c.pick-p5.result =
    times_more _ _ _ _ _ _ _ (omega arith) (omega arith) (omega arith) c.twice-a6.ensures e6 c.pick-p5.ensures in
    let e4 : Times c.twice-a4.result (b / 16) c.pick-p4.result =
    times_more _ _ _ _ _ _ _ (omega arith) (omega arith) (omega arith) c.twice-a5.ensures e5 c.pick-p4.ensures in
    let e3 : Times c.twice-a3.result (b / 8) c.pick-p3.result =
    times_more _ _ _ _ _ _ _ (omega arith) (omega arith) (omega arith) c.twice-a4.ensures e4 c.pick-p3.ensures in
    let e2 : Times c.twice-a2.result (b / 4) c.pick-p2.result =
    times_more _ _ _ _ _ _ _ (omega arith) (omega arith) (omega arith) c.twice-a3.ensures e3 c.pick-p2.ensures in
    let e1 : Times c.twice-a1.result (b / 2) c.pick-p1.result =
    times_more _ _ _ _ _ _ _ (omega arith) (omega arith) (omega arith) c.twice-a2.ensures e2 c.pick-p1.ensures in
    times_more a _ _ b _ _ _ small (omega arith) (omega arith) c.twice-a1.ensures e1 c.pick.ensures ∙ ⊙_comm _ _
