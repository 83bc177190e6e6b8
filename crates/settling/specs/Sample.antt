-- FORMAT 10.8, with n = 26 and capability 1: a subword that is 1 at positions 0 and 1, and 0 elsewhere, is settled by
-- one change of 1 at position 25. As polynomials, the pattern z^25 has the two syndromes of 1 + z.
use Rattle.std.specs.Prelude.{ℕ, zero, suc, ◌*◌, ◌<◌, ◌≡◌, refl}
use Rattle.std.proofs.Common.{sym, ap, ap₂, ◌∙◌, arith}
use Rattle.std.proofs.Math.Bool.{xor}
use Rattle.std.proofs.Math.Option.{some}
use Rattle.field.specs.Definition.{𝟎, 𝟏, α, ◌⊕◌, ◌⊙◌, pow, plus, times, scale, z⁸, horner, modulo, coefficients}
use Rattle.field.specs.Field.{one≢zero}
use Rattle.series.specs.Series.{O, K, ◌⊞◌, O-at}
use Rattle.series.specs.Shift.{zpow, zpow-one, zpow-other}
use Rattle.series.specs.Value.{value-⊞, value-K, value-zpow}
use Rattle.series.specs.Word.{word, weight, weight-take, weight_cong, weight-O}
use Rattle.code.specs.Word.{root, syndrome}
use Rattle.code.specs.Systematic.{syndrome-is}
use Rattle.settling.specs.Definition.{settle}
use Rattle.settling.specs.Settle.{settle-one}

power_0 : pow (root 1 0) 25 ≡ 𝟏 ⊕ pow (root 1 0) 1
unfolding root pow 𝟎 𝟏 α ◌⊕◌ ◌⊙◌ times plus modulo horner scale z⁸ coefficients xor
power_0 = refl

power_1 : pow (root 1 1) 25 ≡ 𝟏 ⊕ pow (root 1 1) 1
unfolding root pow 𝟎 𝟏 α ◌⊕◌ ◌⊙◌ times plus modulo horner scale z⁸ coefficients xor
power_1 = refl

same : (j : ℕ) → pow (root 1 j) 25 ≡ 𝟏 ⊕ pow (root 1 j) 1 → syndrome 1 26 (zpow 25) j ≡ syndrome 1 26 (K 𝟏 ⊞ zpow 1) j
same j e =
    syndrome-is 1 26 (zpow 25) j
    ∙ value-zpow 25 26 (root 1 j) (omega arith)
    ∙ e
    ∙ sym (syndrome-is 1 26 (K 𝟏 ⊞ zpow 1) j ∙ value-⊞ 26 _ _ (root 1 j)
    ∙ ap₂ ◌⊕◌ (value-K 25 𝟏 (root 1 j)) (value-zpow 1 26 (root 1 j) (omega arith)))

one : weight 26 (zpow 25) ≡ 1
one =
    weight-take 25 (zpow 25) (rw zpow-one one≢zero)
    ∙ ap suc (weight_cong 25 (zpow 25) O (λ i l. zpow-other 25 i (omega arith) ∙ sym (O-at i)) ∙ weight-O 25)

pub sample : settle 1 1 26 (syndrome 1 26 (K 𝟏 ⊞ zpow 1)) ≡ some (word 26 (zpow 25))
sample = settle-one 1 1 26 _ (zpow 25) (omega arith) (record { within = omega (arith, one); syndromes = both })
  where
    both : (j : ℕ) → j < 2 * 1 → syndrome 1 26 (zpow 25) j ≡ syndrome 1 26 (K 𝟏 ⊞ zpow 1) j
    both zero h = same 0 power_0
    both (suc zero) h = same 1 power_1
    both (suc (suc j)) h = absurd (omega arith)
