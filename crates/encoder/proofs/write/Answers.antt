use Rattle.std.proofs.Common.{arith, rules, suc, sym, ◌-◌, ◌∙◌, ◌≡◌}
use Rattle.profile.specs.Valid.{checks-some, checks-most}
use Rattle.encoder.specs.Write.{down-at, down-all}
use Rattle.encoder.proofs.write.Goals as goal

pub table-requires : goal.table-requires
table-requires c =
    let most = checks-most _ c.requires.0.valid c.args.p.nested in
    (omega (arith, c.requires.0.valid.root), omega (arith, most, c.checks-made.ensures), search rules)

pub write_fours-left-requires : goal.write_fours-left-requires
write_fours-left-requires c = (c.requires.0, c.requires.1, c.checks-made.ensures, c.table.ensures)

pub loop-i-init : goal.loop-i-init
loop-i-init c = (c.write_fours-left.ensures, record { size = search rules; table = λ h. c.table.ensures })

pub overflow_cast-i : goal.overflow_cast-i
overflow_cast-i c =
    let down = c.loop-i.invariant.0 in
    record { fits = omega (arith, down.fits.valid.subwords, down.most) }

pub prepare-requires : goal.prepare-requires
prepare-requires c =
    let now = c.loop-i in
    let valid = now.invariant.0.fits.valid in
    let count = c.checks-k.ensures in (
      now.invariant.1,
      omega (arith, valid.root),
      omega (arith, checks-some _ valid (now.i - 1), count),
      omega (arith, checks-most _ valid (now.i - 1), count),
    )

pub write_one-end-requires : goal.write_one-end-requires
write_one-end-requires c =
    let now = c.loop-i in
    let back : now.i ≡ suc (now.i - 1) = omega (arith, c.loop-i-test.true) in
    (down-at back now.invariant.0, c.checks-k.ensures, c.prepare.ensures)

pub loop-i-preserved : goal.loop-i-preserved
loop-i-preserved c = (c.write_one-end.ensures, record { size = search rules; table = λ h. c.prepare.ensures })

pub shape_of-out : goal.shape_of-out
shape_of-out c = c.loop-i.invariant.0.fits.size ∙ sym c.requires.0.size

pub returns : goal.returns
returns c = down-all c.loop-i.invariant.0 (omega (arith, c.loop-i-test.false))
