use Rattle.std.proofs.Common.{arith, length-set, rules, sym, ◌∙◌}
use Rattle.polynomial.specs.Polynomial.{row_at}
use Rattle.staged_decoding.specs.Round.{window-none}
use Rattle.extend.specs.Splice.{row-window, window-end}
use Rattle.extend.proofs.splice.Goals as goal

pub loop-j-init : goal.loop-j-init
loop-j-init c = (omega arith, search rules, sym (window-none _ _ _))

pub loop-j-preserved : goal.loop-j-preserved
loop-j-preserved c =
    let now = c.loop-j in
    let taken = c.loop-j-test.true in (
      omega (arith, taken),
      length-set now.out _ _ ∙ now.invariant.1,
      row-window now.out _ now.j _ _ _ now.invariant.1 (omega (arith, c.requires, taken)) (omega arith)
          (sym (row_at _ now.j (omega (arith, c.requires, taken)))) now.invariant.2,
    )

pub returns : goal.returns
returns c =
    let end = c.loop-j in
    let given = c.args in
    end.invariant.2 ∙ window-end given.from given.to end.j _ _ (omega arith) (omega arith) end.invariant.0
