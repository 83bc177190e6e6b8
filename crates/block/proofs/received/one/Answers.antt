-- One row more.
use Rattle.std.proofs.Common.{ap, arith, ◌*◌, ◌∙◌}
use Rattle.series.specs.Shift.{cut}
use Rattle.profile.specs.Definition.{first-root}
use Rattle.profile.specs.Valid.{checks-least, checks-most, checks-below}
use Rattle.block.specs.Parts.{part-syndrome}
use Rattle.block.specs.ReceivedRows.{more_rows}
use Rattle.block.proofs.received.one.Goals as goal

pub syndromes-requires : goal.syndromes-requires
syndromes-requires c =
    let p = c.args.p in
    let ok = c.requires.0.valid in
    let least = checks-least p ok 0 in (
      c.requires.1,
      omega (arith, least, checks-most p ok 0),
      omega (arith, c.subword.ensures.long, least, checks-below p ok 0),
    )

pub offset_bounds-rows-i : goal.offset_bounds-rows-i
offset_bounds-rows-i c = record { fits = omega (arith, c.requires.0.valid.subwords, c.requires.2) }

pub bounds-rows-i : goal.bounds-rows-i
bounds-rows-i c = omega (arith, c.requires.0.valid.subwords, c.requires.2)

pub returns : goal.returns
returns c =
    let p = c.args.p in
    more_rows p _ c.args.i c.args.rows.now _ (omega (arith, c.requires.0.valid.subwords, c.requires.2))
    (c.syndromes.ensures ∙ ap (cut (2 * p.t0)) (part-syndrome (first-root p) c.subword.ensures))
