use Rattle.std.proofs.Common.{arith, refl, rules, take}
use Rattle.stages.specs.Report.{says}
use Rattle.gii.specs.NumbersLaws.{bits_none, bits-more, bits-all}
use Rattle.gii.proofs.numbers.put_bits.Goals as goal

pub loop-i-init : goal.loop-i-init
loop-i-init c = bits_none (says c.args.lines) c.args.list.now

pub loop-i-preserved : goal.loop-i-preserved
loop-i-preserved c =
    let now = c.loop-i in
    bits-more c.args.lines (take 29 c.args.list.now) now.list _ now.i _ _ (search rules) now.invariant refl
    c.put_two.ensures

pub returns : goal.returns
returns c =
    let end = c.loop-i in
    bits-all (says c.args.lines) (take 29 c.args.list.now) end.list end.i (omega arith) end.invariant
