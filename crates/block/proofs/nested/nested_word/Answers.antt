use Rattle.std.proofs.Common.{ap, arith, mul-le-mul_right, refl, ◌*◌, ◌∙◌, ◌≡◌, ◌≤◌}
use Rattle.field.specs.Field.{α, pow}
use Rattle.series.specs.Shift.{cut}
use Rattle.series.specs.Array.{bytes}
use Rattle.code.specs.Combined.{combined, combined-none, combined-more, combined-nested}
use Rattle.block.proofs.nested.nested_word.Goals as goal

pub loop-i-init : goal.loop-i-init
loop-i-init c = (refl, combined-none _ _ _ 255)

pub add_multiple-requires : goal.add_multiple-requires
add_multiple-requires c = (
  c.requires.0,
  c.loop-i-test.true,
  omega (arith, c.requires.0.valid.length, c.loop-i.invariant.0),
)

pub overflow_mul-i : goal.overflow_mul-i
overflow_mul-i c =
    let now = c.loop-i in
    let valid = c.requires.0.valid in
    let few : now.i ≤ 8 = omega (arith, valid.subwords.1) in
    let most = mul-le-mul_right c.args.l few in
    record { fits = omega (arith, most, c.requires.1, valid.nested.0) }

pub loop-i-preserved : goal.loop-i-preserved
loop-i-preserved c =
    let now = c.loop-i in (
      omega (arith, c.word-in-loop-i-1.given, now.invariant.0),
      combined-more _ _ _ now.i _ _ _ c.power-c.ensures now.invariant.1 c.add_multiple.ensures,
    )

pub returns : goal.returns
returns c =
    let end = c.loop-i in
    let given = c.args in
    let p = given.p in
    let s = bytes given.block.now in
    let l = given.l in
    let e : end.i ≡ p.subwords = omega (arith, c.loop-i-test.false) in
    end.invariant.1
    ∙ ap (λ r. cut p.length (combined p.length s (λ k. pow α (k * l)) r)) e
    ∙ ap (cut p.length) (combined-nested p s l)
