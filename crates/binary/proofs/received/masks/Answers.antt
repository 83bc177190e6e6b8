use Rattle.std.proofs.Common.{arith, length, rules, subst, ◌≡◌}
use Rattle.field.specs.Field.{of}
use Rattle.series.specs.Array.{read_at}
use Rattle.binary.specs.ReceivedLaws.{bit-small, Masking, masking-none, masking-more, masking-all}
use Rattle.binary.proofs.received.masks.Goals as goal

pub loop-p-init : goal.loop-p-init
loop-p-init c = (search rules, masking-none _)

pub mask-requires : goal.mask-requires
mask-requires c =
    let p = c.loop-p.p in
    bit-small _ (omega (arith, c.type_inv.word p))
    (rw (read_at of 0) at (c.requires.1 p (omega arith)))

pub loop-p-preserved : goal.loop-p-preserved
loop-p-preserved c =
    let now = c.loop-p in
    (omega arith, masking-more _ now.invariant.1 (omega (arith, c.requires.0)) c.mask.ensures)

pub returns : goal.returns
returns c =
    let end = c.loop-p in
    let e : end.p ≡ length c.args.word.now = omega arith in
    masking-all _ _ (λ k. omega (arith, c.type_inv.word k)) c.requires.0 c.requires.1
    (subst (Masking _ end.out) e end.invariant.1)
