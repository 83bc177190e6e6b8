use Rattle.std.proofs.Common.{arith, refl, sym, ◌*◌, ◌+◌, ◌/◌, ◌≡◌}
use Rattle.series.specs.Array.{values}
use Rattle.kernel.specs.Store.{append-none}
use Rattle.block.specs.Parts.{inside}
use Rattle.staged_decoding.specs.Differences.{bit_weight-none, bit_weight_le}
use Rattle.stages.specs.SubwordStage.{added, added-part}
use Rattle.stages.proofs.subword.correct.Goals as goal

pub overflow_mul-a : goal.overflow_mul-a
overflow_mul-a c = record { fits = omega (arith, inside _ _ _ c.requires.0 c.requires.1) }

pub loop-k-init : goal.loop-k-init
loop-k-init c = (append-none _ _ _, sym (bit_weight-none _))

pub correct_part-bits-requires : goal.correct_part-bits-requires
correct_part-bits-requires c =
    let room = inside _ _ _ c.requires.0 c.requires.1 in (
      omega arith,
      omega (arith, c.requires.0.valid.length.1),
      omega (arith, room),
    )

pub overflow_add-bits : goal.overflow_add-bits
overflow_add-bits c =
    let now = c.loop-k in
    let few = bit_weight_le (51 * (now.k + 1)) (values c.args.pattern) in
    record {
      fits = omega (arith, now.invariant.1, c.correct_part-bits.ensures.bits, few, c.requires.0.valid.length.1);
    }

pub loop-k-preserved : goal.loop-k-preserved
loop-k-preserved c =
    let now = c.loop-k in
    let part = c.correct_part-bits in (
      added-part _ _ _ _ _ now.invariant.0 part.ensures.block,
      omega (arith, now.invariant.1, part.ensures.bits),
    )

pub correct_part-requires : goal.correct_part-requires
correct_part-requires c =
    let room = inside _ _ _ c.requires.0 c.requires.1 in
    (omega arith, c.requires.0.valid.length.1, omega (arith, room))

pub overflow_add-result : goal.overflow_add-result
overflow_add-result c =
    let few = bit_weight_le c.args.p.length (values c.args.pattern) in
    let whole : 51 * c.loop-k.k ≡ 51 * (c.args.p.length / 51) = omega arith in
    record {
      fits = omega (
        arith,
        rw whole at c.loop-k.invariant.1,
        c.correct_part.ensures.bits,
        few,
        c.requires.0.valid.length.1,
      );
    }

pub returns : goal.returns
returns c =
    let given = c.args in
    let end = c.loop-k in
    let part = c.correct_part in
    let whole : 51 * end.k ≡ 51 * (given.p.length / 51) = omega arith in record {
      block = added given.p.length given.i (given.i * given.p.length) _ _ _ refl
          (added-part _ _ _ _ _ (rw whole at end.invariant.0) part.ensures.block);
      bits = omega (arith, rw whole at end.invariant.1, part.ensures.bits);
    }
