-- The section is taken for the one that is known, and no tables are kept.
use Rattle.std.proofs.Common.{ap, arith, sym, true≢false, ◌∙◌}
use Rattle.card.specs.SectionDefinition.{good}
use Rattle.card.specs.SectionLaws.{known-good}
use Rattle.card.specs.PrintedWhole.{judges-known}
use Rattle.card.proofs.judge.Goals as goal

pub judge_kept-requires : goal.judge_kept-requires
judge_kept-requires c = (
  ap good c.known.ensures ∙ known-good c.args.s,
  λ e. absurd (true≢false (sym e)),
)

pub returns : goal.returns
returns c =
    let given = c.args in
    judges-known given.s _ given.bytes.now _ _ _ c.known.ensures c.judge_kept.ensures.judges (λ j.
    omega (arith, c.shared_slice_known-1.given j))
