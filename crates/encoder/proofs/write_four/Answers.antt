-- Where the data of the four subwords start, and that they are the right ones.
use Rattle.std.proofs.Common.{Bor, List, [], arith, length, ℕ, ◌*◌, ◌+◌, ◌-◌, ◌≡◌}
use Rattle.profile.specs.Valid.{checks-most}
use Rattle.profile.specs.FetchDefinition.{between}
use Rattle.divider.specs.Each.{each-of_four}
use Rattle.encoder.specs.Write.{quarters, checks-above, down-stretch}
use Rattle.encoder.proofs.write_four.Goals as goal

abbrev none : Bor (List ℕ)
none = record { ref_ptr = (0, 0); now = [] }

pub overflow_sub-one : goal.overflow_sub-one
overflow_sub-one c = (quarters c.requires.0 c.requires.1 c.requires.2).checks_le

pub part-requires : goal.part-requires
part-requires c =
    let here = quarters c.requires.0 c.requires.1 c.requires.2 in
    omega (arith, here.less, here.end_le)

pub part-requires-2 : goal.part-requires-2
part-requires-2 c =
    let here = quarters c.requires.0 c.requires.1 c.requires.2 in
    omega (arith, here.less, here.end_le)

pub part-requires-3 : goal.part-requires-3
part-requires-3 c =
    let here = quarters c.requires.0 c.requires.1 c.requires.2 in
    omega (arith, here.less, here.end_le)

pub part-requires-4 : goal.part-requires-4
part-requires-4 c =
    let here = quarters c.requires.0 c.requires.1 c.requires.2 in
    omega (arith, here.less, here.end_le)

pub remainders-left-requires : goal.remainders-left-requires
remainders-left-requires c =
    let p = c.args.p in
    let k = c.args.k in
    let ok = c.requires.0.fits.valid in
    let here = quarters c.requires.0 c.requires.1 c.requires.2 in (
      c.requires.3,
      omega (arith, checks-most p ok p.nested, c.requires.2),
      ok.length.1,
      each-of_four (λ _ w. k + length w.now ≡ p.length) _ _ _ _ (omega (arith, here.checks_le, c.part.ensures.0))
          (omega (arith, here.checks_le, c.part-2.ensures.0)) (omega (arith, here.checks_le, c.part-3.ensures.0))
          (omega (arith, here.checks_le, c.part-4.ensures.0)),
    )

pub loop-j-init : goal.loop-j-init
loop-j-init c =
    let here = quarters c.requires.0 c.requires.1 c.requires.2 in
    let one = c.args.p.length - c.args.k in
    let end : c.args.end ≡ c.args.end - 4 * one + 4 * one = omega (arith, here.less) in
    rw end at c.requires.0

pub write_known-requires : goal.write_known-requires
write_known-requires c =
    let p = c.args.p in
    let down = c.loop-j.invariant in
    let m = c.loop-j.j - 1 in
    let here = quarters c.requires.0 c.requires.1 c.requires.2 in
    let size =
    each-of_four (λ _ w. length w.now ≡ p.length - c.args.k) c.part.result c.part-2.result c.part-3.result
    c.part-4.result c.part.ensures.0 c.part-2.ensures.0 c.part-3.ensures.0 c.part-4.ensures.0 m none (omega arith) in (
      down.fits,
      omega (arith, c.requires.1),
      omega (arith, down.most, c.loop-j-test.true),
      checks-above p (c.args.i + m) c.args.k (omega (arith, c.requires.1)) c.requires.2,
      omega (arith, size, here.size (c.args.i + m) (omega arith)),
      c.remainders-left.ensures m none [] (omega arith),
    )

pub loop-j-preserved : goal.loop-j-preserved
loop-j-preserved c =
    let p = c.args.p in
    let k = c.args.k in
    let one = p.length - k in
    let start = c.args.end - 4 * one in
    let m = c.loop-j.j - 1 in
    let input = c.args.input.now in
    let is =
    each-of_four (λ m w. w.now ≡ between (start + m * one) (start + m * one + one) input) c.part.result c.part-2.result
    c.part-3.result c.part-4.result c.part.ensures.1 c.part-2.ensures.1 c.part-3.ensures.1 c.part-4.ensures.1 m none
    (omega arith) in
    down-stretch c.args.i k start c.loop-j.j m c.loop-j.invariant (omega (arith, c.loop-j-test.true))
    (checks-above p (c.args.i + m) k (omega (arith, c.requires.1)) c.requires.2) (omega arith) is c.write_known.ensures
