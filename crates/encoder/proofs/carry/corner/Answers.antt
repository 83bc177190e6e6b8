use Rattle.std.proofs.Common.{arith, refl, suc, sym, ◌-◌, ◌<◌, ◌≡◌}
use Rattle.encoder.specs.CarryPascal.{gathers-none, gathers-first, gathers-next, gathers-all}
use Rattle.encoder.proofs.carry.corner.Goals as goal

pub loop-j-init : goal.loop-j-init
loop-j-init c =
    (refl, refl, refl, gathers-none _ _ _ _ _ 255, gathers-none _ _ _ _ _ 255, gathers-none _ _ _ _ _ 255)

pub loop-j-preserved : goal.loop-j-preserved
loop-j-preserved c =
    let now = c.loop-j in
    let (la, lb, lc, ga, gb, gc) = now.invariant in
    let e : now.j ≡ suc (now.j - 1) = omega (arith, c.loop-j-test.true) in
    let h : now.j - 1 < c.args.p.subwords = omega arith in (
      omega (arith, c.a-in-loop-j-2-1.given, la),
      omega (arith, c.b-in-loop-j-2-1.given, lb),
      omega (arith, c.c-in-loop-j-1.given, lc),
      gathers-first _ _ _ _ (now.j - 1) now.j _ _ e h ga c.add_subword.ensures,
      gathers-next _ _ _ _ 0 (now.j - 1) now.j _ _ _ e h ga gb c.rise-in-loop-j.ensures,
      gathers-next _ _ _ _ 1 (now.j - 1) now.j _ _ _ e h gb gc c.rise.ensures,
    )

pub returns-then-i-eq0 : goal.returns-then-i-eq0
returns-then-i-eq0 c =
    let end = c.loop-j in
    let (_, _, _, ga, _, _) = end.invariant in
    gathers-all _ c.requires.0.valid _ _ 0 end.j _ c.requires.1 (sym c.if-i-eq0.true)
    (omega (arith, c.loop-j-test.false)) ga

pub returns-then-i-eq1 : goal.returns-then-i-eq1
returns-then-i-eq1 c =
    let end = c.loop-j in
    let (_, _, _, _, gb, _) = end.invariant in
    gathers-all _ c.requires.0.valid _ _ 1 end.j _ c.requires.1 (sym c.if-i-eq1.true)
    (omega (arith, c.loop-j-test.false)) gb

pub returns : goal.returns
returns c =
    let end = c.loop-j in
    let (_, _, _, _, _, gc) = end.invariant in
    let e : 2 ≡ c.args.i =
    omega (arith, c.requires.1, c.requires.0.valid.nested, c.if-i-eq1.false, c.if-i-eq0.false) in
    gathers-all _ c.requires.0.valid _ _ 2 end.j _ c.requires.1 e
    (omega (arith, c.loop-j-test.false)) gc
