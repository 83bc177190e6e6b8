-- The word with its remainder, then the part of the block that the subword is.
use Rattle.std.proofs.Common.{ap, arith, length-take-le, sym, ◌*◌, ◌∙◌}
use native.Mathlib.Nat.{add-sub_cancel_left}
use Rattle.series.specs.Series.{Series, ◌⊞◌, ◌⊠◌}
use Rattle.series.specs.Shift.{zpow}
use Rattle.series.specs.Array.{bytes}
use Rattle.profile.specs.Valid.{checks-below}
use Rattle.block.specs.Parts.{inside, part_length}
use Rattle.encoder.specs.Fours.{known_wrote}
use Rattle.encoder.proofs.fours.write_known.Goals as goal

pub padded-word-requires : goal.padded-word-requires
padded-word-requires c =
    let (fits, _, _, ek, ed, _) = c.requires in
    omega (arith, ek, ed, checks-below c.args.p fits.valid c.args.i, fits.valid.length)

pub overflow_mul-a : goal.overflow_mul-a
overflow_mul-a c = record { fits = omega (arith, inside _ _ c.args.i c.requires.0 c.requires.2) }

pub overflow_add-b : goal.overflow_add-b
overflow_add-b c = record { fits = omega (arith, inside _ _ c.args.i c.requires.0 c.requires.2) }

pub slice_bounds-place-end : goal.slice_bounds-place-end
slice_bounds-place-end c = sym (length-take-le c.args.p.length _ c.requires.0.valid.length.1)

pub slice_bounds-place-end-2 : goal.slice_bounds-place-end-2
slice_bounds-place-end-2 c = sym (length-take-le c.args.p.length _ (omega (arith, c.requires.0.valid.length)))

pub place-requires : goal.place-requires
place-requires c =
    let n = c.args.p.length in
    let i = c.args.i in
    let part = part_length n i _ c.args.out.now (add-sub_cancel_left (i * n) n)
    (inside _ _ i c.requires.0 c.requires.2).0 in (
      omega (
        arith,
        part,
        length-take-le n c.join.new.word
            (omega (arith, c.requires.0.valid.length)),
      ),
      length-take-le n _ c.requires.0.valid.length.1 ∙ sym part,
    )

pub returns : goal.returns
returns c =
    let p = c.args.p in
    let n = p.length in
    let i = c.args.i in
    let (fits, high, less, ek, ed, known) = c.requires in
    let here = (inside _ _ i fits less).0 in
    let same = add-sub_cancel_left (i * n) n in
    known_wrote p i _ _ c.args.input.now c.args.out.now _ _ _ fits high less ek ed same
    (omega (arith, c.out-1.given, part_length n i _ c.args.out.now same here))
    (omega (arith, c.word-2-1.given)) known
    (c.join.ensures
    ∙ ap (λ (f : Series). f ⊞ zpow 0 ⊠ bytes c.args.r.now)
    c.padded-word.ensures)
    c.place.ensures
