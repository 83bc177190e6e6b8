-- Settled already, clean, or attempted.
use Rattle.std.proofs.Common.{sym, ◌∙◌}
use Rattle.polynomial.specs.SyndromesZero.{zero_row}
use Rattle.stages.specs.SubwordStage.{clean_yes, took-clean, offered}
use Rattle.stages.proofs.subword.stage.Goals as goal

pub returns-then-is_clean : goal.returns-then-is_clean
returns-then-is_clean c =
    let (first, zero) = clean_yes _ _ (sym c.is_clean.ensures ∙ c.if-is_clean.true) in
    rw c.in-Pending.is (λ f ready. took-clean _ f _ _ _ _ _ c.in-Pending.solver _ c.requires.0.valid.length.1 first
    (zero_row _ zero) ready c.clean.ensures.0 c.clean.ensures.1)

pub attempt-requires : goal.attempt-requires
attempt-requires c = (c.requires.0.valid, c.requires.2)

pub returns : goal.returns
returns c =
    let attempt = c.attempt in
    rw c.in-Pending.is (λ f ready. rw (attempt.ensures.settled f ready) at
    (c.take.ensures f _ (offered _ f _ c.args.row _ attempt.result (sym c.is_clean.ensures ∙ c.if-is_clean.false) ready
    attempt.ensures.sound (attempt.ensures.solver f ready))))
