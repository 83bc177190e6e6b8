-- The numerator, term by term of the locator.
--
-- Proved: no term, and one more term, of f times the first 32 coefficients of s (product-none, product-more); below m,
-- where m is at most 32, the first m terms of f make the product (product-first).
use Rattle.std.specs.Prelude.{ℕ, ◌+◌, ◌≤◌, ◌<◌, ◌≡◌, replicate}
use Rattle.std.proofs.Common.{sym, ap, ap₂, ◌∙◌, add-one, arith}
use Rattle.field.specs.Field.{F, of, of_zero}
use Rattle.series.specs.Series.{Series, O, K, ◌⊞◌, ◌⊠◌, ⊠_comm, zero-⊠, ⊠-ring}
use Rattle.series.specs.Shift.{zpow, cut, cut-none, cut-suc, cut-⊠, cut-K-⊠}
use Rattle.series.specs.Array.{bytes, read-zeros}
use Rattle.kernel.specs.Store.{cut_cong}

pub product-none : (n : ℕ) (f s : Series) → bytes (replicate n 0) ≡ cut 0 f ⊠ cut 32 s
product-none n f s = read-zeros of 0 of_zero n O ∙ cut-none O ∙ sym (rw (cut-none f) (zero-⊠ _))

pub product-more : (i : ℕ) (f s g h : Series) (c : F)
    → g ≡ cut i f ⊠ cut 32 s → h ≡ g ⊞ zpow i ⊠ cut 32 (K c ⊠ s) → c ≡ f i
    → h ≡ cut (i + 1) f ⊠ cut 32 s
product-more i f s g h c is more at = more ∙ ap₂ (λ t a. t ⊞ zpow i ⊠ cut 32 (K a ⊠ s)) is at
    ∙ rw (cut-K-⊠, add-one, cut-suc i f) (simp ⊠-ring)

pub product-first : (m : ℕ) (f s : Series) → m ≤ 32 → cut m (cut m f ⊠ cut 32 s) ≡ cut m (f ⊠ s)
product-first m f s h = cut_cong m _ _ at
  where
    at : (i : ℕ) → i < m → (cut m f ⊠ cut 32 s) i ≡ (f ⊠ s) i
    at i l =
        cut-⊠ 32 (cut m f) s i (omega arith)
        ∙ ap (λ (t : Series). t i) (⊠_comm (cut m f) s)
        ∙ cut-⊠ m s f i l
        ∙ ap (λ (t : Series). t i) (⊠_comm s f)
