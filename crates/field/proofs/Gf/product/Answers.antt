-- A product with zero is zero; that of α^a and α^b is α^(a + b).
use Rattle.std.proofs.Common.{ap, ap₂, arith, rules, sym, ℕ, ◌+◌, ◌∙◌}
use Rattle.field.specs.Definition.{F, α, ◌⊙◌, pow, val}
use Rattle.field.specs.Product.{⊙-zero, zero-⊙}
use Rattle.field.specs.Byte.{val-zero, val-is-zero, val_nonzero}
use Rattle.field.proofs.Log.{log_lt}
use Rattle.field.proofs.Inverse.{log-product}
use Rattle.field.proofs.Gf.product.Goals as goal

pub returns-then-self-eq0 : goal.returns-then-self-eq0
returns-then-self-eq0 c =
    val-zero ∙ sym (ap (λ (x : F). x ⊙ val c.args.other) (val-is-zero _ c.if-self-eq0.true) ∙ zero-⊙ _)

pub returns-then-other-eq0 : goal.returns-then-other-eq0
returns-then-other-eq0 c =
    val-zero ∙ sym (ap (λ (y : F). val c.args.self ⊙ y)
    (val-is-zero _ c.if-other-eq0.true) ∙ ⊙-zero _)

pub overflow_add-j : goal.overflow_add-j
overflow_add-j c =
    let given = c.args in
    omega (
      arith,
      c.log-j.ensures,
      c.log-k.ensures,
      log_lt (val given.self),
      log_lt (val given.other),
    )

pub returns : goal.returns
returns c =
    c.power.ensures
    ∙ ap₂ (λ (i j : ℕ). pow α (i + j)) c.log-j.ensures c.log-k.ensures
    ∙ log-product _ _ (val_nonzero _ (search rules) c.if-self-eq0.false)
    (val_nonzero _ (search rules) c.if-other-eq0.false)
