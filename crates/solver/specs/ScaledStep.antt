-- An iteration of the scaled form, from what its lines compute.
--
-- Proved: cut 49 passes through what an iteration makes of its products; a swap, and a hold with d ≠ 0 or d = 0, are
-- the definition's.
use Rattle.std.specs.Prelude.{ℕ, ◌+◌, ◌≡◌, refl, Bool, true, false, cond, ℤ}
use Rattle.std.proofs.Math.Path.{sym, ap}
use Rattle.std.proofs.Common.{◌∙◌, arith}
use Rattle.field.specs.Field.{F, ◌⊙◌, is_zero, one-⊙}
use Rattle.series.specs.Series.{Series, O, K, Z, ◌⊞◌, ◌⊠◌, tail, one-⊠}
use Rattle.series.specs.Shift.{cut, cut_low, cut-⊞}
use Rattle.series.specs.Degree.{below-O, below-cut_eq}
use Rattle.key_equation.specs.Shared.{swaps, k_swap, k_hold}
use Rattle.key_equation.specs.Scaled as Scaled
use Rattle.solver.specs.ScaledView.{clip_scaled, ProductsOf, stepped}

-- ---- cut 49

cut-unless : (n : ℕ) (x : F) (f : Series) → cut n (Scaled.unless x f) ≡ Scaled.unless x (cut n f)
unfolding Scaled.unless
cut-unless n x f = go (is_zero x)
  where
    go : (b : Bool) → cut n (cond b O f) ≡ cond b O (cut n f)
    go true = below-cut_eq n O (below-O n)
    go false = refl

-- the scalars are made from the constant term of Δ, which is not cut
clip-holding : (r : ℕ) (S Λ B : Series) (γ' : F) (k : ℤ) (Δ Θ : Series)
    → clip_scaled (Scaled.holding r S Λ B γ' k Δ Θ)
    ≡ Scaled.holding r S (cut 49 Λ) (cut 49 B) γ' k (cut 49 Δ) (cut 49 Θ)
unfolding clip_scaled
clip-holding r S Λ B γ' k Δ Θ =
    let d : Δ 0 ≡ cut 49 Δ 0 = sym (cut_low 49 Δ 0 (omega arith)) in
    λ i. record {
      Λ = cut 49 Λ;
      B = cut 49 B;
      γ' = γ';
      k = k;
      Δ = cut 49 Δ;
      Θ = cut 49 Θ;
      g = Scaled.ratio r S;
      ρ = Scaled.rho γ' (d i);
      ξ = d i;
      ρS = Scaled.ratio r S ⊙ Scaled.rho γ' (d i);
      ξS = Scaled.ratio r S ⊙ d i;
    }

clip-stepped : (r : ℕ) (S a b c e y t : Series) (γ' : F) (k : ℤ)
    → clip_scaled (stepped r S a b c e y t γ' k)
    ≡ stepped r S (cut 49 a) (cut 49 b) (cut 49 c) (cut 49 e) (cut 49 y) (cut 49 t) γ' k
clip-stepped r S a b c e y t γ' k =
    clip-holding r S _ _ _ _ _ _
    ∙ (λ i. Scaled.holding r S
    (cut-⊞ 49 a b i)
    (cut 49 y)
    γ'
    k
    (Δ-is i)
    (Θ-is i))
  where
    Δ-is : cut 49 (c ⊞ e ⊞ Scaled.unless (S r) (a ⊞ b))
        ≡ cut 49 c ⊞ cut 49 e ⊞ Scaled.unless (S r) (cut 49 a ⊞ cut 49 b)
    Δ-is = simp (cut-⊞, cut-unless)

    Θ-is : cut 49 (t ⊞ Scaled.unless (S r) y) ≡ cut 49 t ⊞ Scaled.unless (S r) (cut 49 y)
    Θ-is = simp (cut-⊞, cut-unless)

-- ---- an iteration

module _ (r : ℕ) (S : Series) (m : Scaled.State) (d γ : F) (k : ℤ) (a b c e : Series) (d-is : m.Δ 0 ≡ d)
    (p : ProductsOf m a b c e) where
  made : (y t Y T : Series) (γ₁ : F) (k₁ : ℤ) → y ≡ cut 49 Y → t ≡ cut 49 T → γ ≡ γ₁ → k ≡ k₁
      → stepped (r + 1) S a b c e y t γ k
      ≡ clip_scaled (stepped (r + 1) S (K m.ρS ⊠ m.Λ) (K m.ξS ⊠ (Z ⊠ m.B)) (K m.ρ ⊠ tail m.Δ)
      (K m.ξ ⊠ m.Θ) Y T γ₁ k₁)
  made y t Y T γ₁ k₁ y-is t-is γ-is k_is =
      (λ i. stepped (r + 1) S (p.a_is i) (p.b_is i) (p.c_is i) (p.e_is i) (y-is i) (t-is i) (γ-is i) (k_is i))
      ∙ sym (clip-stepped (r + 1) S _ _ _ _ _ _ _ _)

  pub scaled-swap : swaps d m.k ≡ true → γ ≡ m.ρ ⊙ d → k ≡ k_swap m.k
      → stepped (r + 1) S a b c e a c γ k ≡ clip_scaled (Scaled.iterate r S m)
  unfolding Scaled.iterate
  scaled-swap h γ-is k_is = rw (d-is, h) (made _ _ _ _ _ _ p.a_is p.c_is γ-is k_is)

  pub scaled-hold : swaps d m.k ≡ false → is_zero d ≡ false → γ ≡ m.ξ ⊙ m.γ' → k ≡ k_hold m.k
      → stepped (r + 1) S a b c e b e γ k ≡ clip_scaled (Scaled.iterate r S m)
  unfolding Scaled.iterate
  scaled-hold h z γ-is k_is = rw (d-is, h, z) (made _ _ _ _ _ _ p.b_is p.e_is γ-is k_is)

  -- a hold with d = 0
  pub scaled_pass : (y : Series)
      → swaps d m.k ≡ false → is_zero d ≡ true → y ≡ cut 49 (K m.g ⊠ (Z ⊠ m.B)) → m.Θ ≡ cut 49 m.Θ
      → γ ≡ m.γ' → k ≡ k_hold m.k → stepped (r + 1) S a b c e y m.Θ γ k ≡ clip_scaled (Scaled.iterate r S m)
  unfolding Scaled.iterate
  scaled_pass y h z y-is Θ-is γ-is k_is =
      rw (d-is, h, z)
      (made _ _ _ _ _ _ y-is (Θ-is ∙ ap (cut 49) (sym (one-⊠ m.Θ))) (γ-is ∙ sym (one-⊙ m.γ')) k_is)
