-- The tables, then the line.
use Rattle.std.proofs.Common.{arith, length, length-take-le, sym, ◌≤◌}
use Rattle.block.specs.Parts.{inside}
use Rattle.card.proofs.block_line.line_of.Goals as goal

pub prepare-requires : goal.prepare-requires
prepare-requires c =
    let given = c.requires in
    (given.0.valid, given.1)

pub slice_bounds-out-end : goal.slice_bounds-out-end
slice_bounds-out-end c =
    let fits =
    c.requires.0 in
    omega (arith, c.blank-out.ensures, inside _ _ 0 fits fits.valid.subwords.0)

pub slice_bounds-read_block-end-3 : goal.slice_bounds-read_block-end-3
slice_bounds-read_block-end-3 c =
    let fits =
    c.requires.0 in
    sym (length-take-le _ _ (omega (arith, c.blank-out.ensures, inside _ _ 0 fits fits.valid.subwords.0)))

pub read_block-requires : goal.read_block-requires
read_block-requires c =
    let fits = c.requires.0 in
    let n = length c.args.block.now in
    let long : n ≤ length c.blank-out.result =
    omega (arith, c.blank-out.ensures, inside _ _ 0 fits fits.valid.subwords.0) in
    (fits, length-take-le _ _ long, c.prepare.ensures)

pub returns : goal.returns
returns c = record {
  says = c.read_block.ensures;
  made = c.prepare.ensures;
}
