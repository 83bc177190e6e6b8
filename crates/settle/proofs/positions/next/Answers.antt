use Rattle.std.proofs.Common.{ap, arith, length, length-set, rules, sym, ◌∙◌, ◌≡◌}
use Rattle.field.specs.Field.{◌⊙◌}
use Rattle.series.specs.Degree.{below-cut_eq}
use Rattle.series.specs.Array.{below-read, read-zeros, read_store}
use Rattle.settling.specs.Locator.{W}
use Rattle.settle.specs.PositionsTerm.{below-terms}
use Rattle.settle.specs.PositionsExponent.{lane, symbol-none, symbols, symbols-at, loss, step-none, step_term}
use Rattle.settle.proofs.positions.next.Goals as goal

pub loop-i-init : goal.loop-i-init
loop-i-init c = (search rules, read-zeros lane _ symbol-none 32 _)

pub back-requires : goal.back-requires
back-requires c =
    let long : length c.args.e ≡ 32 = search rules in
    step-none c.args.e c.args.step c.loop-i.i c.requires (omega arith) (omega (arith, long))

pub loop-i-preserved : goal.loop-i-preserved
loop-i-preserved c =
    let now = c.loop-i in
    let e = c.args.e in
    let long : length e ≡ 32 = search rules in
    let (room, is) = now.invariant in (
      length-set now.out _ _ ∙ room,
      read_store lane _ now.out now.i _ _ (omega (arith, room)) is
          (step_term (symbols e) c.args.step now.i _ c.requires (omega arith)
          (c.back.ensures
          ∙ ap (λ y. y ⊙ W (loss c.args.step now.i)) (sym (symbols-at e now.i (omega (arith, long)))))),
    )

pub returns : goal.returns
returns c =
    let end = c.loop-i in
    let e = c.args.e in
    let long : length e ≡ 32 = search rules in
    let all : end.i ≡ 32 = omega arith in
    (rw all at end.invariant.1)
    ∙ below-cut_eq 32 _ (below-terms 32 (W 1) (symbols e) (rw long at (below-read lane _ symbol-none e)))
