-- Refused twice, or read.
use Rattle.std.proofs.Common.{arith, refl, subst, sym, ◌∙◌}
use Rattle.series.specs.Array.{bytes}
use Rattle.stages.specs.View.{Reached}
use Rattle.decoder.specs.Laws.{gives-unsettled, gives-foreign, gives-read}
use Rattle.decoder.proofs.prepared.conclude.Goals as goal

pub returns-in-Err : goal.returns-in-Err
returns-in-Err c =
    let p = c.args.p in
    let f = c.args.form in
    let refused = c.refuse.ensures in
    λ y r. gives-unsettled p f y _ c.in-Err.end _ _ c.refuse.result
    (subst (Reached p f y (bytes c.args.block.now)) c.in-Err.is r) refused.answer refused.same refused.report

pub returns-then-not-is_codeword : goal.returns-then-not-is_codeword
returns-then-not-is_codeword c =
    let p = c.args.p in
    let f = c.args.form in
    let refuse = c.refuse-then-not-is_codeword in
    let refused = refuse.ensures in
    let wrong = sym c.is_codeword.ensures ∙ c.if-not-is_codeword.true in
    λ y r. gives-foreign p f y _ c.in-Ok.end _ _ refuse.result
    (subst (Reached p f y (bytes c.args.block.now)) c.in-Ok.is r) wrong refused.answer refused.same refused.report

pub returns : goal.returns
returns c =
    let p = c.args.p in
    let f = c.args.form in
    let right = sym c.is_codeword.ensures ∙ c.if-not-is_codeword.false in
    let summed = c.summed in
    λ y r. gives-read p f y c.args.block.now _ _ c.in-Ok.end _ c.copy.ensures c.requires.0.size
    (λ i. omega (arith, c.shared_slice_known-2-1.given i)) (subst (Reached p f y (bytes c.args.block.now)) c.in-Ok.is r)
    right refl summed.ensures.kept.0 summed.ensures.changed summed.ensures.bits summed.ensures.kept.1
