use Rattle.std.proofs.Common.{ap, arith, length, ◌+◌, ◌-◌, ◌≡◌}
use Rattle.block.specs.Gather.{within, room, data-most, before_more, before-all}
use Rattle.block.proofs.gather.gather.Goals as goal

pub positions-part-requires : goal.positions-part-requires
positions-part-requires c = within c.args.p _ c.loop-i.i c.requires.0 (omega arith)

pub overflow_add-e : goal.overflow_add-e
overflow_add-e c =
    let now = c.loop-i in
    let fits = room c.args.p _ now.i c.requires.0 (omega arith) in
    record {
      fits = omega (
        arith,
        fits,
        now.invariant.0,
        ap length c.positions-part.ensures.result_value,
        data-most c.args.p _ c.requires.0,
      );
    }

pub slice_bounds-copy_from_slice-end : goal.slice_bounds-copy_from_slice-end
slice_bounds-copy_from_slice-end c =
    let now = c.loop-i in
    let fits = room c.args.p _ now.i c.requires.0 (omega arith) in
    omega (arith, fits, now.invariant.0, now.invariant.1, ap length c.positions-part.ensures.result_value)

pub loop-i-preserved : goal.loop-i-preserved
loop-i-preserved c =
    let now = c.loop-i in
    let (start, size, before) = now.invariant in
    let n : now.at + length c.positions-part.result.now - now.at
    ≡ length c.positions-part.result.now = omega arith in
    let (next, long, more) =
    before_more c.args.p _ now.i now.at _ now.out _ _ c.requires.0 (omega arith) start size before
    c.positions-part.ensures.result_value c.copy_from_slice.ensures.after n in
    (next, long, more)

pub returns : goal.returns
returns c =
    let end = c.loop-i in
    let (start, size, all) = end.invariant in
    before-all c.args.p _ end.out end.at end.i c.requires.0 (omega arith) start size all
