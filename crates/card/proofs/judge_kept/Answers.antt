-- Cut, or whole.
use Rattle.std.proofs.Common.{ap, arith, length-take-le, sym, take, ◌∙◌}
use Rattle.card.specs.SectionLaws.{takes_as}
use Rattle.card.specs.PrintedStep.{whole}
use Rattle.card.specs.PrintedWhole.{step_cut, step-whole, judges-good, step-good}
use Rattle.card.specs.Laws.{kept_as, made-next, cut-kept}
use Rattle.card.proofs.judge_kept.Goals as goal

pub returns-then-bytes-n : goal.returns-then-bytes-n
returns-then-bytes-n c =
    let s = c.args.s in
    let y = c.args.bytes.now in
    let good = c.requires.0 in
    let short = step_cut s y (omega (arith, c.if-bytes-n.true, c.size-n.ensures.value)) in
    let takes = takes_as short c.cut.ensures in record {
      judges = judges-good s y _ _ _ good takes (λ j. omega (arith, c.type_inv.bytes j));
      kept = kept_as _ _ c.cut.ensures.next (cut-kept c.args.t.now c.args.u.now s);
      next = step-good s y _ _ _ good takes;
    }

pub slice_bounds-whole-end : goal.slice_bounds-whole-end
slice_bounds-whole-end c = sym (length-take-le _ _ c.if-bytes-n.false)

pub whole-requires : goal.whole-requires
whole-requires c = (c.requires.0, length-take-le _ _ c.if-bytes-n.false ∙ c.size-n.ensures.value, c.requires.1)

pub returns : goal.returns
returns c =
    let s = c.args.s in
    let y = c.args.bytes.now in
    let good = c.requires.0 in
    let size_is = c.size-n.ensures.value in
    let all = step-whole s y (omega (arith, c.if-bytes-n.false, size_is)) in
    let did = c.whole.ensures.takes in
    let takes = takes_as (ap (λ n. whole s (take n y)) size_is ∙ all) did in record {
      judges = judges-good s y _ _ _ good takes (λ j. omega (arith, c.type_inv.bytes j));
      kept = kept_as _ _ did.next (made-next _ _ s _ c.whole.ensures.made);
      next = step-good s y _ _ _ good takes;
    }
