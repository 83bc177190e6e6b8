use Rattle.std.proofs.Common.{arith, ext_get_or, get_or, length-set}
use Rattle.kernel.specs.Copy.{copied_more}
use Rattle.kernel.proofs.word.copy.Goals as goal

pub loop-i-init : goal.loop-i-init
loop-i-init c = (c.requires, λ k h. absurd (omega arith))

pub loop-i-preserved : goal.loop-i-preserved
loop-i-preserved c =
    let now = c.loop-i in
    let from = c.args.from.now in (
      omega (arith, length-set now.to now.i (get_or from now.i 0), now.invariant.0),
      copied_more now.to from now.i (omega (arith, now.invariant.0)) now.invariant.1,
    )

pub returns : goal.returns
returns c =
    let end = c.loop-i in
    ext_get_or 0 end.to _ end.invariant.0 (λ k h. end.invariant.1 k (omega (arith, end.invariant.0)))
