-- A byte has at most eight ones.
use Rattle.std.proofs.Common.{arith, bit_xor, refl, rules, ◌≤◌}
use lib.Bits.{xor_lt}
use lib.Count.{ones, ones-le}
use Rattle.stages.proofs.subword.wrong_bits.Goals as goal

pub overflow_cast-result : goal.overflow_cast-result
overflow_cast-result c =
    let few : ones (bit_xor c.args.received c.args.corrected) ≤ 8 =
    ones-le 8 _ (xor_lt 8 c.args.received c.args.corrected (search rules) (search rules)) in
    record { fits = omega (arith, few) }

pub returns : goal.returns
returns c = refl
