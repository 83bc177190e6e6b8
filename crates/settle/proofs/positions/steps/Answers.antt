use Rattle.std.proofs.Common.{ap, arith, length, length-set, rules, sym, ◌∙◌, ◌≡◌}
use mathlib.Core.Logic.{ite}
use Rattle.field.specs.Field.{𝟎, ◌≟◌}
use Rattle.series.specs.Degree.{below-cut_eq}
use Rattle.settle.specs.PositionsExponent.{symbols, symbols-at, steps-none, steps-more}
use Rattle.settle.proofs.positions.steps.Goals as goal

pub loop-i-init : goal.loop-i-init
loop-i-init c = (search rules, steps-none _)

pub loop-i-preserved : goal.loop-i-preserved
loop-i-preserved c =
    let now = c.loop-i in
    let e = c.args.e in
    let long : length e ≡ 32 = search rules in
    let (room, is) = now.invariant in (
      length-set now.out _ _ ∙ room,
      steps-more now.i (symbols e) now.out _ is (omega (arith, room))
          (c.step.ensures ∙ ap (λ y. ite (y ≟ 𝟎) 0 now.i) (sym (symbols-at e now.i (omega (arith, long))))),
    )

pub returns : goal.returns
returns c =
    let end = c.loop-i in
    let e : end.i ≡ c.args.k = omega arith in
    rw (e, below-cut_eq _ _ c.requires.1) at end.invariant.1
