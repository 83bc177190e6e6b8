-- A word times a factor and another word, symbol by symbol.
--
--   change c f g   what makes of f c times f, and g
use Rattle.std.specs.Prelude.{ℕ, ◌+◌, ◌≤◌, ◌<◌, ◌≡◌, List, length, set}
use Rattle.std.proofs.Common.{sym, ◌∙◌, arith}
use Rattle.std.proofs.Math.Path.{ap, ap₂}
use Rattle.field.specs.Field.{F, 𝟏, ◌⊕◌, ◌⊙◌, ⊕-zero, ⊙-zero, ⊙-ring, of, of_zero}
use Rattle.series.specs.Series.{Series, K, ◌⊞◌, ◌⊠◌, ⊠-ring, ⊞-at, K-⊠-at, K-⊕}
use Rattle.series.specs.Shift.{cut, cut_high}
use Rattle.series.specs.Degree.{below, below-⊞, below-K-⊠, below_weaken, below-cut_eq}
use Rattle.series.specs.Array.{bytes, below-read}
use Rattle.kernel.specs.Store.{multiple-none, multiple-more}

unfoldable pub change : F → Series → Series → Series
change c f g = K (c ⊕ 𝟏) ⊠ f ⊞ g

module _ (c : F) (f g : Series) where
  pub rise-none : f ≡ f ⊞ K 𝟏 ⊠ cut 0 (change c f g)
  rise-none = multiple-none 𝟏 f _

  pub rise-more : (w : List ℕ) (q v : ℕ) → q < length w → bytes w ≡ f ⊞ K 𝟏 ⊠ cut q (change c f g)
      → of v ≡ c ⊙ bytes w q ⊕ g q
      → bytes (set w q v) ≡ f ⊞ K 𝟏 ⊠ cut (q + 1) (change c f g)
  unfolding change
  rise-more w q v h e ev =
      multiple-more w q v 𝟏 f _ h e
      (ev ∙ ap (λ (t : F). c ⊙ t ⊕ g q) old ∙ sum (f q) (g q)
      ∙ ap₂ (λ (t u : F). t ⊕ 𝟏 ⊙ u) (sym old) (sym (⊞-at _ _ q ∙ ap (λ (t : F). t ⊕ g q) (K-⊠-at _ _ q))))
    where
      old : bytes w q ≡ f q
      old = ap (λ (g : Series). g q) e ∙ rw (⊞-at, K-⊠-at, cut_high q _ q (omega arith), ⊙-zero) (⊕-zero (f q))

      sum : (x y : F) → c ⊙ x ⊕ y ≡ x ⊕ 𝟏 ⊙ ((c ⊕ 𝟏) ⊙ x ⊕ y)
      sum x y = simp ⊙-ring

pub rise-all : (c : F) (q : ℕ) (w u : List ℕ) → length w ≤ q → length u ≡ length w
    → bytes w ⊞ K 𝟏 ⊠ cut q (change c (bytes w) (bytes u)) ≡ K c ⊠ bytes w ⊞ bytes u
unfolding change
rise-all c q w u h e = ap (λ (f : Series). bytes w ⊞ K 𝟏 ⊠ f) (below-cut_eq q _ small) ∙ shape (bytes w) (bytes u)
  where
    low : (l : List ℕ) → length l ≤ q → below q (bytes l)
    low l r = below_weaken (length l) q _ (below-read of 0 of_zero l) r

    small : below q (K (c ⊕ 𝟏) ⊠ bytes w ⊞ bytes u)
    small = below-⊞ q _ _ (below-K-⊠ q (c ⊕ 𝟏) _ (low w h)) (low u (omega arith))

    shape : (f g : Series) → f ⊞ K 𝟏 ⊠ (K (c ⊕ 𝟏) ⊠ f ⊞ g) ≡ K c ⊠ f ⊞ g
    shape f g = rw K-⊕ (simp ⊠-ring)
