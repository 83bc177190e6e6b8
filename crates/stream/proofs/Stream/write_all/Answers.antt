use Rattle.std.proofs.Common.{arith, length, ◌-◌}
use Rattle.stream.specs.Laws.{part_length, write-more, write-whole}
use Rattle.stream.proofs.Stream.write_all.Goals as goal

pub loop-at-preserved : goal.loop-at-preserved
loop-at-preserved c =
    let buf = c.args.buf.now in
    let part = part_length buf c.loop-at.at in (
      omega (arith, part, c.write-sent.ensures.within),
      write-more _ _ _ buf c.loop-at.at c.write-sent.result (length buf - c.loop-at.at)
          c.loop-at.invariant.1 c.write-sent.ensures.gave (omega (arith, part, c.write-sent.ensures.within)),
    )

pub returns : goal.returns
returns c =
    let now = c.loop-at in
    write-whole _ _ _ now.at now.invariant.1 (omega arith)
