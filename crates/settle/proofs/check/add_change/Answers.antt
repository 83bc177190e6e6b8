use Rattle.std.proofs.Common.{ap, arith, sym, ◌∙◌, ◌≡◌}
use Rattle.field.specs.Field.{F, α, ◌⊕◌, ◌⊙◌, ⊙-one, val, val_of, pow, pow-zero}
use Rattle.field.proofs.Field.{log_lt}
use Rattle.series.specs.Series.{Series, K, ◌⊞◌, ◌⊠◌}
use Rattle.series.specs.Shift.{cut}
use Rattle.series.specs.Array.{bytes}
use Rattle.kernel.specs.Store.{bytes-xor, multiple-none, multiple-more}
use Rattle.settling.specs.Locator.{X}
use Rattle.settle.specs.Effect.{first-exponent, next-exponent, change-is}
use Rattle.settle.proofs.check.add_change.Goals as goal

pub exponent-e-requires : goal.exponent-e-requires
exponent-e-requires c = (omega (arith, c.log.ensures, log_lt (val c.args.y)), c.requires.0)

pub loop-j-init : goal.loop-j-init
loop-j-init c = (
  omega (arith, c.exponent-e.ensures),
  sym (ap (λ t. pow α c.exponent-e.result.0 ⊙ t) (pow-zero _) ∙ ⊙-one _),
  multiple-none _ _ _,
)

pub loop-j-preserved : goal.loop-j-preserved
loop-j-preserved c =
    let now = c.loop-j in
    let is = c.exponent-e-in-loop-j.ensures in (
      omega (arith, is),
      next-exponent now.e.0 _ _ now.j _ is now.invariant.1,
      multiple-more now.to now.j _ _ _ _ (omega arith) now.invariant.2
          (bytes-xor now.to now.j _
          ∙ ap (λ (s : F). bytes now.to now.j ⊕ s) (sym (val_of _) ∙ c.at.ensures ∙ now.invariant.1)),
    )

pub returns : goal.returns
returns c =
    let end = c.loop-j in
    let x = c.args in
    let e : end.j ≡ x.m = omega arith in
    let first = first-exponent _ _ _ _ c.requires.1 c.log.ensures c.exponent-e.ensures in
    (rw e at end.invariant.2) ∙ ap (λ (f : Series). bytes x.to.now ⊞ f)
    (ap (λ (a : F). K a ⊠ cut x.m (pow (X x.p))) first ∙ change-is _ _ _)
