-- By the section that comes.
use Rattle.std.proofs.Common.{ap, arith, ltb-true, rules, sym, ◌∙◌}
use mathlib.Core.Bool.{and-eq-true_iff}
use Rattle.card.specs.SectionDefinition.{good, size}
use Rattle.card.specs.SectionLaws.{takes-silent, takes_as}
use Rattle.card.specs.BlockLineLaws.{fit}
use Rattle.card.specs.PrintedStep.{whole}
use Rattle.card.specs.Laws.{made_as, kept_as}
use Rattle.card.proofs.whole.Goals as goal

pub bounds-bytes-0 : goal.bounds-bytes-0
bounds-bytes-0 c = omega (arith, c.requires.1, ap size c.in-Size.is)

pub bounds-bytes-0-in-Count : goal.bounds-bytes-0-in-Count
bounds-bytes-0-in-Count c = omega (arith, c.requires.1, ap size c.in-Count.is)

pub bounds-bytes-1 : goal.bounds-bytes-1
bounds-bytes-1 c =
    omega (
      arith,
      c.requires.1,
      ap size c.in-Count.is,
    )

pub judge_block-requires : goal.judge_block-requires
judge_block-requires c =
    let is = c.in-Block.is in
    let (low, accepted) = (and-eq-true_iff _ _).0 (sym (ap good is) ∙ c.requires.0) in (
      ltb-true _ _ low,
      fit _ _ accepted (c.requires.1 ∙ ap size is) (search rules),
      λ e. kept_as _ _ (sym is) (c.requires.2 e),
    )

pub returns-in-Size : goal.returns-in-Size
returns-in-Size c =
    let is = c.in-Size.is in record {
      takes = takes_as (sym (ap (λ s. whole s c.args.bytes.now) is))
          c.judge_size.ensures;
      made = made_as _ _ is tt;
    }

pub returns-in-Bytes : goal.returns-in-Bytes
returns-in-Bytes c =
    let is = c.in-Bytes.is in record {
      takes = takes_as (sym (ap (λ s. whole s c.args.bytes.now) is))
          c.judge_bytes.ensures;
      made = made_as _ _ is tt;
    }

pub returns-in-Count : goal.returns-in-Count
returns-in-Count c =
    let is = c.in-Count.is in record {
      takes = takes_as (sym
          (ap (λ s. whole s c.args.bytes.now) is))
          c.judge_count.ensures;
      made = made_as _ _ is tt;
    }

pub returns-in-Block : goal.returns-in-Block
returns-in-Block c =
    let is = c.in-Block.is in record {
      takes = takes_as (sym
          (ap (λ s. whole s c.args.bytes.now) is))
          c.judge_block.ensures.takes;
      made = made_as _ _ is c.judge_block.ensures.made;
    }

pub returns-in-End : goal.returns-in-End
returns-in-End c =
    let is = c.in-End.is in record {
      takes = takes_as (sym (ap (λ s. whole s c.args.bytes.now) is))
          c.refuse.ensures;
      made = made_as _ _ is tt;
    }

pub returns-in-Over : goal.returns-in-Over
returns-in-Over c =
    let is = c.in-Over.is in record {
      takes = takes_as (sym (ap (λ s. whole s c.args.bytes.now) is)) (takes-silent _ _);
      made = made_as _ _ is tt;
    }
