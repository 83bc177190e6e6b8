use Rattle.std.proofs.Common.{arith, length, refl, ◌-◌, ◌∙◌}
use borrow.Rule.Slice.PartMut.{same_len_mid}
use Rattle.stream.specs.Laws.{took-none, part_length, counted, fill_more, fill_none, fill-all}
use Rattle.stream.proofs.Stream.fill.Goals as goal

pub loop-at-init : goal.loop-at-init
loop-at-init c = (omega arith, took-none _)

pub returns-then-got-eq0 : goal.returns-then-got-eq0
returns-then-got-eq0 c =
    let now = c.loop-at in
    let y = c.read-got.new.buf in
    let same = same_len_mid now.at (length now.buf - now.at) now.buf y c.read-got.auto.buf in record {
      reads =
          fill_none _ _ _ now.buf y _ now.at _ now.invariant.1 now.invariant.0 c.read-got.ensures.reads (omega arith) _
          (omega (arith, same));
      counts = counted now.buf _ now.at same now.invariant.0;
    }

pub loop-at-preserved : goal.loop-at-preserved
loop-at-preserved c =
    let now = c.loop-at in
    let y = c.read-got.new.buf in
    let same = same_len_mid now.at (length now.buf - now.at) now.buf y c.read-got.auto.buf in
    let size = c.read-got.auto.buf ∙ part_length now.buf now.at in (
      omega (arith, same, size, c.read-got.ensures.within),
      fill_more _ _ _ now.buf y _ now.at _ now.invariant.1 now.invariant.0 c.read-got.ensures.reads (omega arith)
          c.read-got.ensures.within,
    )

pub returns : goal.returns
returns c =
    let now = c.loop-at in record {
      reads = fill-all _ _ now.buf now.at now.invariant.1 (omega arith);
      counts = counted now.buf now.buf now.at refl now.invariant.0;
    }
