use Rattle.std.proofs.Common.{arith, below_more, below_none, length-take-le, sym, ◌∙◌}
use Rattle.field.specs.Field.{is_zero_true, is_zero_false}
use Rattle.series.specs.Array.{bytes}
use Rattle.profile.specs.Valid.{checks-least, checks-most}
use Rattle.block.specs.CodewordDefinition.{Vanish}
use Rattle.block.specs.CodewordLaws.{check-passes, past-passes, past_fails}
use Rattle.block.proofs.codeword.is_codeword.Goals as goal

pub remainders-rows-requires : goal.remainders-rows-requires
remainders-rows-requires c = (c.requires.0, c.requires.2)

pub loop-l-init : goal.loop-l-init
loop-l-init c = below_none _

pub offset_bounds-rows-l : goal.offset_bounds-rows-l
offset_bounds-rows-l c = record {
  fits = omega (
    arith,
    c.requires.0.valid.nested,
    c.loop-l-test.true,
  );
}

pub bounds-rows-l : goal.bounds-rows-l
bounds-rows-l c =
    omega (
      arith,
      c.requires.0.valid.nested,
      c.loop-l-test.true,
    )

pub overflow_cast-l : goal.overflow_cast-l
overflow_cast-l c = record {
  fits = omega (
    arith,
    c.requires.0.valid.nested,
    c.loop-l-test.true,
  );
}

pub slice_bounds-r-end : goal.slice_bounds-r-end
slice_bounds-r-end c =
    let left = c.remainders-rows.ensures c.loop-l.l
    c.loop-l-test.true in
    omega (
      arith,
      c.further-k.ensures,
      left.0,
      checks-most c.args.p c.requires.0.valid 0,
    )

pub slice_bounds-at_roots-end : goal.slice_bounds-at_roots-end
slice_bounds-at_roots-end c =
    let left = c.remainders-rows.ensures
    c.loop-l.l c.loop-l-test.true in
    sym (length-take-le c.further-k.result _ (omega (
      arith,
      c.further-k.ensures,
      left.0,
      checks-most c.args.p c.requires.0.valid 0,
    )))

pub at_roots-row-requires : goal.at_roots-row-requires
at_roots-row-requires c =
    omega (
      arith,
      c.checks-checks.ensures,
      checks-most c.args.p c.requires.0.valid c.loop-l.l,
    )

pub slice_bounds-s-items-start : goal.slice_bounds-s-items-start
slice_bounds-s-items-start c =
    omega (arith, c.checks-checks.ensures, checks-least c.args.p c.requires.0.valid c.loop-l.l)

pub slice_bounds-s-items-end : goal.slice_bounds-s-items-end
slice_bounds-s-items-end c =
    omega (arith, c.checks-checks.ensures, checks-most c.args.p c.requires.0.valid c.loop-l.l)

pub loop-s-init : goal.loop-s-init
loop-s-init c = below_none _

pub loop-s-preserved : goal.loop-s-preserved
loop-s-preserved c =
    let now = c.loop-s in
    below_more _ now.s-index now.invariant (is_zero_true _ (sym c.is_zero.ensures ∙ c.if-not-is_zero.false))

pub loop-l-preserved : goal.loop-l-preserved
loop-l-preserved c =
    let now = c.loop-l in
    let end = c.loop-s in
    let p = c.args.p in
    let s = bytes c.args.block.now in
    below_more (Vanish p s) now.l now.invariant
    (past-passes p s c.requires.0.valid now.l _ _ _ _ c.further-k.ensures c.checks-checks.ensures
    (c.remainders-rows.ensures now.l c.loop-l-test.true) c.at_roots-row.ensures _
    (λ i h. end.invariant i (omega (arith, h, c.loop-s-test.false))) (omega arith))

pub returns : goal.returns
returns c =
    check-passes c.args.p _ c.requires.1 (λ l h. c.loop-l.invariant l (omega (arith, c.loop-l-test.false)))

pub returns-then-not-is_zero : goal.returns-then-not-is_zero
returns-then-not-is_zero c =
    let l = c.loop-l.l in
    let h = c.loop-l-test.true in
    past_fails c.args.p _ c.requires.0.valid l _ _ _ _ c.further-k.ensures c.checks-checks.ensures
    (c.remainders-rows.ensures l h) c.at_roots-row.ensures _ c.loop-s.s-index
    (is_zero_false _ (sym c.is_zero.ensures ∙ c.if-not-is_zero.true)) (omega (arith, c.loop-s-test.true))
    (omega arith) h
