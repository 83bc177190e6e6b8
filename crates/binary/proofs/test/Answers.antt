-- The test: each location is within n, and the sums of their odd powers are the syndromes.
use Rattle.std.proofs.Common.{ap, ap₂, ◌∙◌}
use Rattle.field.specs.Field.{F, ◌⊕◌, val}
use Rattle.binary.specs.Located.{tests_outside, tests-sums}
use Rattle.binary.proofs.test.Goals.{then-not-within-via-then-not-within}
use Rattle.binary.proofs.test.Goals.{then-not-within-via-else-not-within+then-not-within-2}
use Rattle.binary.proofs.test.Goals.{then-not-within-via-else-not-within+else-not-within-2+then-not-within-3}
use Rattle.binary.proofs.test.Goals as goal

pub returns-then-not-within : goal.returns-then-not-within
returns-then-not-within c = tests_outside _ _ _ _ _ _ _ (λ (x, y, z). elim c.then-not-within.branch [
  | then-not-within-via-then-not-within w ↦ c.within.ensures.no w.if-not-within.true x
  | then-not-within-via-else-not-within+then-not-within-2 w ↦
      w.within-else-not-within.ensures.no w.if-not-within-2.true y
  | then-not-within-via-else-not-within+else-not-within-2+then-not-within-3 w ↦
      w.within-else-not-within-2.ensures.no w.if-not-within-3.true z
])

pub returns : goal.returns
returns c =
    let s = c.args.s in
    let all = c.sum.ensures in
    let three = c.sum-three.ensures in
    let two = c.sum-two.ensures in
    let x = c.single.ensures in
    let y = c.single-2.ensures in
    let z = c.single-3.ensures in
    tests-sums _ _ _ _ _ _ _
    (c.within.ensures.yes c.if-not-within.false)
    (c.within-else-not-within.ensures.yes c.if-not-within-2.false)
    (c.within-else-not-within-2.ensures.yes c.if-not-within-3.false) _ _ _
    (all.0 ∙ ap (λ (t : F). t ⊕ val s.s0) (three.0 ∙ ap₂ ◌⊕◌ (two.0 ∙ ap₂ ◌⊕◌ x.0 y.0) z.0))
    (all.1 ∙ ap (λ (t : F). t ⊕ val s.s2) (three.1 ∙ ap₂ ◌⊕◌ (two.1 ∙ ap₂ ◌⊕◌ x.1 y.1) z.1))
    (all.2 ∙ ap (λ (t : F). t ⊕ val s.s4) (three.2 ∙ ap₂ ◌⊕◌ (two.2 ∙ ap₂ ◌⊕◌ x.2 y.2) z.2))
    _ c.are_zero.ensures
