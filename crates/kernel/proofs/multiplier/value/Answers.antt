use Rattle.std.proofs.Common.{rules, ◌∙◌, ◌≡◌}
use Rattle.field.specs.Field.{val_of}
use Rattle.kernel.specs.Horner.{horner-none, front-all, front-less, horner-next, horner-all}
use Rattle.kernel.proofs.multiplier.value.Goals as goal

pub loop-x-init : goal.loop-x-init
loop-x-init g c =
    let whole : c.into_iter-x-iterator.result.iter.rest.now ≡ c.args.word.now = search rules in
    rw whole (front-all _, λ a _. horner-none _ a)

pub loop-x-preserved : goal.loop-x-preserved
loop-x-preserved g c =
    let left = c.next.new.self.iter.rest.now in
    let x = c.in-Some.x.now in
    let step = c.in-Some.ensures.steps in
    let now = rw step at c.loop-x.invariant in
    (front-less left x now.0, λ a by. horner-next left _ x now.0 (now.1 a by) (c.times.ensures a by))

pub returns : goal.returns
returns g c a by = val_of _ ∙ horner-all (c.loop-x.invariant.1 a by) c.in-None.ensures.steps.0
