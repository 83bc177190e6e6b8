use Rattle.std.proofs.Common.{ap, arith, refl, ◌∙◌, ◌≡◌}
use Rattle.series.specs.Shift.{cut}
use Rattle.series.specs.Array.{bytes}
use Rattle.code.specs.Combined.{combined, combined-none, combined-more}
use Rattle.extend.specs.LagrangeDefinition.{flag, lagrange}
use Rattle.extend.proofs.merge.Goals as goal

pub loop-k-init : goal.loop-k-init
loop-k-init c = (refl, combined-none _ _ _ 255)

pub lagrange-c-requires : goal.lagrange-c-requires
lagrange-c-requires c = c.requires.valid.subwords.1

pub add_multiple-requires : goal.add_multiple-requires
add_multiple-requires c = (
  c.requires,
  c.loop-k-test.true,
  omega (arith, c.requires.valid.length, c.loop-k.invariant.0),
)

pub loop-k-preserved : goal.loop-k-preserved
loop-k-preserved c =
    let now = c.loop-k in
    let factor = c.lagrange-c.ensures in (
      omega (arith, c.word-in-loop-k-1.given, now.invariant.0),
      combined-more _ _ _ now.k _ _ _ factor now.invariant.1 c.add_multiple.ensures,
    )

pub returns : goal.returns
returns c =
    let end = c.loop-k in
    let given = c.args in
    let p = given.p in
    let e : end.k ≡ p.subwords = omega arith in
    end.invariant.1
    ∙ ap (λ r. cut p.length (combined p.length (bytes given.block.now)
    (lagrange p.subwords (flag given.pending) given.i) r)) e
