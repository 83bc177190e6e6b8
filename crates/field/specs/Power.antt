-- The laws of powers.
use Rattle.std.specs.Prelude.{◌≡◌, refl, ℕ, zero, suc, ◌+◌, ◌*◌}
use Rattle.std.proofs.Common.{ap, ◌∙◌, zero-add, suc-add, mul-zero, mul-suc}
use Rattle.field.specs.Definition.{F, 𝟏, ◌⊙◌, pow}
use Rattle.field.specs.Product.{⊙_assoc, ⊙_comm, ⊙-left_comm, ⊙-one, one-⊙}

pub pow-zero : (x : F) → pow x 0 ≡ 𝟏
unfolding pow
pow-zero x = refl

pub pow-suc : (x : F) (n : ℕ) → pow x (suc n) ≡ x ⊙ pow x n
unfolding pow
pow-suc x n = refl

pub pow-one : (x : F) → pow x 1 ≡ x
pow-one x = pow-suc x 0 ∙ ap (λ (s : F). x ⊙ s) (pow-zero x) ∙ ⊙-one x

pub pow-add : (x : F) (m n : ℕ) → pow x (m + n) ≡ pow x m ⊙ pow x n
pow-add x zero n = simp (zero-add, pow-zero, one-⊙)
pow-add x (suc m) n = simp (suc-add, pow-suc, pow-add x m n, ⊙_assoc)

pub pow_mul : (x : F) (m n : ℕ) → pow x (m * n) ≡ pow (pow x m) n
pow_mul x m zero = simp (mul-zero, pow-zero)
pow_mul x m (suc n) = simp (mul-suc, pow-add, pow-suc, pow_mul x m n, ⊙_comm)

pub one-pow : (n : ℕ) → pow 𝟏 n ≡ 𝟏
one-pow zero = pow-zero 𝟏
one-pow (suc n) = simp (pow-suc, one-⊙, one-pow n)

pub pow-⊙ : (x y : F) (n : ℕ) → pow (x ⊙ y) n ≡ pow x n ⊙ pow y n
pow-⊙ x y zero = simp (pow-zero, one-⊙)
pow-⊙ x y (suc n) = simp (pow-suc, pow-⊙ x y n, ⊙_assoc, ⊙-left_comm)
