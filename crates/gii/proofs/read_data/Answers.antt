-- The block that was read, and its data.
use Rattle.std.proofs.Common.{List, [], ap, arith, get_or, length, length-take-le, sym, ℕ, ◌∙◌, ◌≡◌, ◌≤◌}
use Rattle.block.specs.Gather.{data_of}
use Rattle.gii.specs.Laws.{lent_front, extracted-fits, extracted-small, read-refused, read_given}
use Rattle.gii.proofs.read_data.Goals as goal

within : (l : List ℕ) (n : ℕ) → length l ≡ 2040 → n ≤ 2040 → n ≤ length l
within l n e h = omega (arith, e, h)

pub slice_bounds-whole-end : goal.slice_bounds-whole-end
slice_bounds-whole-end c =
    let a = c.args in
    let small = extracted-small a.profile.now a.block.now _ a.p c.requires
    (omega (arith, c.type_inv.profile 2)) in
    omega (arith, c.blank-whole.ensures, small)

pub slice_bounds-gii_decode-end : goal.slice_bounds-gii_decode-end
slice_bounds-gii_decode-end c =
    let a = c.args in
    let small = extracted-small a.profile.now a.block.now _ a.p c.requires
    (omega (arith, c.type_inv.profile 2)) in
    sym (length-take-le _ _ (omega (arith, c.blank-whole.ensures, small)))

pub returns-then-r-ne0 : goal.returns-then-r-ne0
returns-then-r-ne0 c =
    let a = c.args in
    let byte : get_or a.profile.now 2 0 ≤ 255 = omega (arith, c.type_inv.profile 2) in
    let small = extracted-small a.profile.now a.block.now _ a.p c.requires byte in
    let room = length-take-le (length a.block.now) c.blank-whole.result
    (omega (arith, c.blank-whole.ensures, small)) in
    let both =
    read-refused a.profile.now a.block.now _ a.p c.requires byte c.gii_decode-r.result _
    [] a.out.now room c.gii_decode-r.ensures.result (omega arith) in
    record { result = both.0; «data» = both.1 }

pub slice_bounds-whole-end-2 : goal.slice_bounds-whole-end-2
slice_bounds-whole-end-2 c =
    let a = c.args in
    let small = extracted-small a.profile.now a.block.now _ a.p c.requires
    (omega (arith, c.type_inv.profile 2)) in
    (lent_front (length a.block.now) c.blank-whole.result c.gii_decode-r.new.out
    (omega (arith, c.blank-whole.ensures, small)) c.gii_decode-r.auto.out).0

pub slice_bounds-gather-end : goal.slice_bounds-gather-end
slice_bounds-gather-end c =
    let a = c.args in
    let small = extracted-small a.profile.now a.block.now _ a.p c.requires
    (omega (arith, c.type_inv.profile 2)) in
    sym (length-take-le _ _ (lent_front (length a.block.now) c.blank-whole.result
    c.gii_decode-r.new.out
    (omega (arith, c.blank-whole.ensures, small)) c.gii_decode-r.auto.out).0)

pub gather-requires : goal.gather-requires
gather-requires c =
    let a = c.args in
    let byte : get_or a.profile.now 2 0 ≤ 255 = omega (arith, c.type_inv.profile 2) in
    let (fits, room) = extracted-fits a.profile.now a.block.now _ a.p c.requires byte in
    let small = extracted-small a.profile.now a.block.now _ a.p c.requires byte in
    let (_, front, size) = lent_front (length a.block.now) c.blank-whole.result
    c.gii_decode-r.new.out
    (omega (arith, c.blank-whole.ensures, small)) c.gii_decode-r.auto.out in
    (record { valid = fits.valid; size = ap length front ∙ size ∙ fits.size }, room)

pub returns : goal.returns
returns c =
    let a = c.args in
    let byte : get_or a.profile.now 2 0 ≤ 255 = omega (arith, c.type_inv.profile 2) in
    let small = extracted-small a.profile.now a.block.now _ a.p c.requires byte in
    let inside = within c.blank-whole.result (length a.block.now) c.blank-whole.ensures small in
    let room = length-take-le (length a.block.now) c.blank-whole.result inside in
    let (_, front, _) = lent_front (length a.block.now) c.blank-whole.result
    c.gii_decode-r.new.out inside c.gii_decode-r.auto.out in
    let told = c.gii_decode-r.ensures in
    let both =
    read_given a.profile.now a.block.now _ a.p c.requires byte _ _ _ a.out.now room told.result
    c.gii_decode-r.new.out _ (omega arith) told.block (c.gather.ensures ∙ ap (data_of a.p) front) in
    record { result = both.0; «data» = both.1 }
