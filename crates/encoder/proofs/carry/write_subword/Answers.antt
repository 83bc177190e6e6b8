-- What is carried, then the part of the block that the subword is.
use Rattle.std.proofs.Common.{arith, length, length-take-le, sym, ◌*◌, ◌+◌, ◌∙◌, ◌≡◌}
use native.Mathlib.Nat.{add-sub_cancel_left}
use Rattle.profile.specs.Valid.{checks-most, checks-below}
use Rattle.block.specs.Parts.{inside, part_length}
use Rattle.divider.specs.GeneratorTable.{table_for}
use Rattle.encoder.specs.CarrySubword.{wrote-is}
use Rattle.encoder.proofs.carry.write_subword.Goals as goal

pub overflow_mul-a : goal.overflow_mul-a
overflow_mul-a c = record { fits = omega (arith, inside _ _ c.args.i c.requires.0 c.requires.1) }

pub overflow_add-b : goal.overflow_add-b
overflow_add-b c = record { fits = omega (arith, inside _ _ c.args.i c.requires.0 c.requires.1) }

pub slice_bounds-fill-end : goal.slice_bounds-fill-end
slice_bounds-fill-end c = sym (length-take-le c.args.p.length _ (omega (arith, c.requires.0.valid.length)))

pub fill-requires : goal.fill-requires
fill-requires c =
    let p = c.args.p in
    let i = c.args.i in
    let n = p.length in
    let k = c.checks-k.ensures in
    let part = part_length n i _ _ (add-sub_cancel_left (i * n) n) (inside _ _ i c.requires.0 c.requires.1).0 in
    let all : n ≡ c.checks-k.result + length c.args.input.now =
    omega (arith, k, c.requires.3, checks-below p c.requires.0.valid i) in (
      table_for (sym k) c.requires.2,
      omega (arith, checks-most p c.requires.0.valid i, k),
      part ∙ all,
      length-take-le n _ (omega (arith, c.requires.0.valid.length)) ∙ sym part,
    )

pub returns : goal.returns
returns c =
    let p = c.args.p in
    let i = c.args.i in
    let n = p.length in
    let here = (inside _ _ i c.requires.0 c.requires.1).0 in
    let same = add-sub_cancel_left (i * n) n in
    wrote-is p i _ _ _ _ c.args.out.now _ _ here
    c.checks-k.ensures
    (part_length n i _ _ same here) same
    (omega (arith, c.out-1.given, part_length n i _ c.args.out.now same here))
    (omega (arith, c.requires.0.valid.length))
    c.carried-e.ensures c.fill.ensures
