use Rattle.std.proofs.Common.{add-zero, arith, get_or, suc, sym, ◌+◌, ◌-◌, ◌<◌, ◌∙◌, ◌≡◌}
use Rattle.field.specs.Field.{of}
use Rattle.series.specs.Series.{tail}
use Rattle.series.specs.Shift.{drop, cut, drop_at0, drop-suc, cut-none}
use Rattle.series.specs.Array.{bytes, read_at}
use Rattle.divider.specs.Packed.{digits, digits-zero, pack_lt, pack-more}
use Rattle.divider.proofs.packed.word.Goals as goal

pub loop-i-init : goal.loop-i-init
loop-i-init c = (omega arith, digits-zero ∙ sym (cut-none _))

pub overflow_cast-w : goal.overflow_cast-w
overflow_cast-w c = omega (arith, c.shared_slice_known-1.given (c.args.at + (c.loop-i.i - 1)))

pub loop-i-preserved : goal.loop-i-preserved
loop-i-preserved c =
    let now = c.loop-i in
    let list = c.args.list.now in
    let j = c.args.at + (now.i - 1) in
    let byte : get_or list j 0 < 256 = omega (arith, c.shared_slice_known-1.given j) in
    let e : 8 - (now.i - 1) ≡ suc (8 - now.i) = omega arith in
    let s : c.args.at + now.i ≡ suc j = omega arith in
    let before : digits now.w ≡ cut (8 - now.i) (tail (drop j (bytes list))) = rw (s, drop-suc) at now.invariant.1 in
    let first = sym (drop_at0 j (bytes list) ∙ read_at of 0 list j) in (
      pack_lt now.w _ byte,
      rw e (pack-more (drop j (bytes list)) (8 - now.i) now.w _ (omega arith) now.invariant.0 byte first before),
    )

pub returns : goal.returns
returns c =
    let end = c.loop-i in
    let e : end.i ≡ 0 = omega arith in
    rw (e, add-zero) at end.invariant.1
