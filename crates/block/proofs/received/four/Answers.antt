-- Four rows more.
use Rattle.std.proofs.Common.{[], arith, length, refl, ◌*◌, ◌+◌, ◌≡◌}
use Rattle.series.specs.Array.{bytes}
use Rattle.profile.specs.Valid.{checks-least, checks-most, checks-below}
use Rattle.divider.specs.Each.{each-of_four}
use Rattle.block.specs.Parts.{Part}
use Rattle.block.specs.ReceivedRows.{more_rows, part-row}
use Rattle.block.proofs.received.four.Goals as goal

pub residues-left-requires : goal.residues-left-requires
residues-left-requires c =
    let p = c.args.p in
    let ok = c.requires.0.valid in
    let least = checks-least p ok 0 in (
      c.requires.1,
      omega (arith, least, checks-most p ok 0),
      omega (arith, least, checks-below p ok 0),
      each-of_four (λ _ w. length w.now ≡ p.length) _ _ _ _ c.subword.ensures.long c.subword-2.ensures.long
          c.subword-3.ensures.long c.subword-4.ensures.long,
    )

pub loop-j-init : goal.loop-j-init
loop-j-init c f = let same : c.args.i + 0 ≡ c.args.i = omega arith in rw same f

pub row-requires : goal.row-requires
row-requires c =
    omega (arith, checks-least c.args.p c.requires.0.valid 0, checks-most c.args.p c.requires.0.valid 0)

pub offset_bounds-rows-i : goal.offset_bounds-rows-i
offset_bounds-rows-i c = record { fits = omega (arith, c.requires.0.valid.subwords, c.requires.2) }

pub bounds-rows-i : goal.bounds-rows-i
bounds-rows-i c = omega (arith, c.requires.0.valid.subwords, c.requires.2)

pub loop-j-preserved : goal.loop-j-preserved
loop-j-preserved c f =
    let p = c.args.p in
    let b = c.args.block.now in
    let i = c.args.i in
    let j = c.loop-j.j in
    let start : i + 0 ≡ i = omega arith in
    let next : i + (j + 1) ≡ i + j + 1 = omega arith in
    let first : Part p b (i + 0) c.subword.result.now = rw start c.subword.ensures in
    let part =
    each-of_four (λ m w. Part p b (i + m) w.now) c.subword.result c.subword-2.result c.subword-3.result
    c.subword-4.result first c.subword-2.ensures c.subword-3.ensures c.subword-4.ensures j c.subword.result
    (omega arith) in
    let is = part-row p b (i + j) (2 * p.t0) _ _ c.row.result refl part
    (c.residues-left.ensures j c.subword.result [] (omega arith)) c.row.ensures in
    rw next
    (more_rows p (bytes b) (i + j) c.loop-j.rows c.row.result (omega (arith, c.requires.0.valid.subwords, c.requires.2))
    is (c.loop-j.invariant f))
