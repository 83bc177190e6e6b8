-- Too many changes explain nothing; else the syndromes decide.
use Rattle.std.proofs.Common.{arith, sym, ◌∙◌}
use Rattle.settle.specs.Effect.{test-long, test-passed, test-failed}
use Rattle.settle.proofs.check.test.Goals as goal
use Rattle.settle.proofs.check.test.Goals.{else-effect-t-via-then-effect-t+else-agree, else-effect-t-via-else-effect-t}

pub returns-then-agree : goal.returns-then-agree
returns-then-agree c =
    let effect = c.effect_of-effect.ensures in (
      effect.0,
      test-passed _ _ _ _ _ _ (omega arith) effect.1 (omega (arith, effect.0)) (sym c.agree.ensures ∙ c.if-agree.true),
    )

pub returns-else-effect-t : goal.returns-else-effect-t
returns-else-effect-t c =
    let effect = c.effect_of-effect.ensures in
    elim c.else-effect-t.branch [
      | else-effect-t-via-then-effect-t+else-agree w ↦
          test-failed _ _ _ _ _ _ (omega arith) effect.1 (sym w.agree.ensures ∙ w.if-agree.false)
      | else-effect-t-via-else-effect-t w ↦ test-long _ _ _ _ (omega (arith, effect.0, w.if-effect-t.false))
    ]
