-- An iteration of the plain form, from what its lines compute.
--
-- Proved: a swap and a hold are the definition's.
use Rattle.std.specs.Prelude.{ℕ, ◌≡◌, true, false, ℤ}
use Rattle.std.proofs.Math.Path.{sym}
use Rattle.std.proofs.Common.{◌∙◌}
use Rattle.field.specs.Field.{F}
use Rattle.series.specs.Series.{Series, K, Z, ◌⊞◌, ◌⊠◌}
use Rattle.series.specs.Shift.{cut}
use Rattle.series.specs.Degree.{below, below-cut_eq}
use Rattle.polynomial.specs.Polynomial.{cut-update}
use Rattle.key_equation.specs.Shared.{swaps, k_swap, k_hold}
use Rattle.key_equation.specs.Plain as Plain
use Rattle.solver.specs.PlainView.{clip_plain}

module _ (r : ℕ) (S : Series) (m : Plain.State) (d : F) (zB next : Series) (k : ℤ) (h : below 49 m.Λ)
    (d-is : d ≡ Plain.δ r S m)
    (zB-is : zB ≡ cut 49 (Z ⊠ m.B)) (next-is : next ≡ K m.γ ⊠ m.Λ ⊞ K d ⊠ zB) where
  update-is : next ≡ cut 49 (Plain.update d m)
  update-is = next-is ∙ rw zB-is (cut-update _ _ _ _ h)

  pub plain-swap : swaps d m.k ≡ true → k ≡ k_swap m.k
      → ◌≡◌ {A = Plain.State} (record { Λ = next; B = m.Λ; γ = d; k = k }) (clip_plain (Plain.iterate r S m))
  unfolding Plain.iterate clip_plain
  plain-swap t e =
      rw (← d-is, t) (λ i. record { Λ = update-is i; B = sym (below-cut_eq 49 m.Λ h) i; γ = d; k = e i })

  pub plain-hold : swaps d m.k ≡ false → k ≡ k_hold m.k
      → ◌≡◌ {A = Plain.State} (record { Λ = next; B = zB; γ = m.γ; k = k }) (clip_plain (Plain.iterate r S m))
  unfolding Plain.iterate clip_plain
  plain-hold t e = rw (← d-is, t) (λ i. record { Λ = update-is i; B = zB-is i; γ = m.γ; k = e i })
