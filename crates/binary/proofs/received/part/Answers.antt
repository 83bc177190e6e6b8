use Rattle.std.proofs.Common.{ap, arith, rules, sym, ℕ, ◌∙◌, ◌≡◌}
use Rattle.field.specs.Field.{◌⊕◌, of_zero, ⊕_self}
use Rattle.series.specs.Value.{value as Value}
use Rattle.series.specs.Array.{bytes}
use Rattle.binary.specs.ReceivedLaws.{part-more}
use Rattle.binary.proofs.received.part.Goals as goal

pub loop-p-init : goal.loop-p-init
loop-p-init c = (search rules, λ x w t m. of_zero ∙ sym (⊕_self _))

pub loop-p-preserved : goal.loop-p-preserved
loop-p-preserved c =
    let given = c.args in
    let now = c.loop-p in (
      omega arith,
      λ x w t m. part-more w given.masks.now given.table.now x m t given.from now.p now.sum
          (omega (arith, c.requires.1)) (now.invariant.1 x w t m),
    )

pub returns : goal.returns
returns c x w t m =
    let end = c.loop-p in
    let given = c.args in
    let e : end.p ≡ given.to = omega arith in
    end.invariant.1 x w t m ∙ ap (λ (n : ℕ). Value n (bytes w) x ⊕ Value given.from (bytes w) x) e
