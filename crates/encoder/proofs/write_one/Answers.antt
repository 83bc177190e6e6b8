-- Where the data of the subword start, and that they are the right ones.
use Rattle.std.proofs.Common.{arith, drop, length, length-drop, length-take-le, ◌-◌, ◌∙◌, ◌≤◌}
use Rattle.divider.specs.GeneratorTable.{table_for}
use Rattle.encoder.specs.Write.{stretch, down-one}
use Rattle.encoder.proofs.write_one.Goals as goal

pub overflow_sub-start : goal.overflow_sub-start
overflow_sub-start c = (stretch c.requires.0 c.requires.1).checks_le

pub slice_bounds-write_subword-end : goal.slice_bounds-write_subword-end
slice_bounds-write_subword-end c = (stretch c.requires.0 c.requires.1).end_le

pub write_subword-requires : goal.write_subword-requires
write_subword-requires c =
    let (down, checks, table) = c.requires in
    let here = stretch down checks in
    let end = c.args.end in
    let start = end - (c.args.p.length - c.args.k) in
    let input = c.args.input.now in
    let inside : end - start ≤ length (drop start input) = omega (arith, length-drop start input, here.end_le) in (
      down.fits,
      here.less,
      table_for checks table,
      length-take-le (end - start) (drop start input) inside ∙ here.size,
    )

pub returns : goal.returns
returns c =
    let (down, checks, _) = c.requires in
    down-one down checks c.out-1.given c.write_subword.ensures
