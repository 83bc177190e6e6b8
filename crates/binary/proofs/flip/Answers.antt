-- No bit, or the one at the logarithm of the location.
use Rattle.std.proofs.Common.{ap, arith, sym, ◌∙◌}
use Rattle.field.specs.Field.{is_zero_true, is_zero_false}
use Rattle.series.specs.Series.{Series, ◌⊞◌, ⊞-zero}
use Rattle.series.specs.Shift.{zpow}
use Rattle.series.specs.Array.{bytes}
use Rattle.binary.specs.ChangesLaws.{spike-none, spike-some, bytes_flip}
use Rattle.binary.proofs.flip.Goals as goal

pub bounds-word-log : goal.bounds-word-log
bounds-word-log c =
    let some = is_zero_false _ (sym c.is_zero.ensures ∙ c.if-not-is_zero.true) in
    omega (arith, c.log.ensures, c.requires some)

pub bounds-word-log-then-not-is_zero : goal.bounds-word-log-then-not-is_zero
bounds-word-log-then-not-is_zero c =
    let some = is_zero_false _ (sym c.is_zero.ensures ∙ c.if-not-is_zero.true) in
    omega (arith, c.log.ensures, c.requires some)

pub returns-then-not-is_zero : goal.returns-then-not-is_zero
returns-then-not-is_zero c =
    let some = is_zero_false _ (sym c.is_zero.ensures ∙ c.if-not-is_zero.true) in
    bytes_flip c.args.word.now c.log.result.0
    (omega (arith, c.log.ensures, c.requires some))
    ∙ ap (λ (f : Series). bytes c.args.word.now ⊞ f)
    (ap zpow c.log.ensures ∙ sym (spike-some _ some))

pub returns-else-not-is_zero : goal.returns-else-not-is_zero
returns-else-not-is_zero c =
    let zero = is_zero_true _ (sym c.is_zero.ensures ∙ c.if-not-is_zero.false) in
    sym (ap (λ (f : Series). bytes c.args.word.now ⊞ f) (spike-none _ zero) ∙ ⊞-zero _)
