-- The lookahead form keeps its state as defined (`lookahead_is`): at the start (start_is), through an entry (enter-is),
-- through an iteration (iterate-is); and it swaps with the plain form (swapping-is).
use Rattle.std.specs.Prelude.{ℕ, suc, ◌+◌, ◌≡◌, refl, Bool, ℤ}
use Rattle.std.proofs.Common.{sym, ap, ◌∙◌}
use Rattle.std.proofs.Math.Bool.{true, false, cond}
use Rattle.std.proofs.Math.Numerals.{towards_suc}
use Rattle.field.specs.Field.{F, 𝟎, 𝟏, ◌⊕◌, ◌⊙◌, ⊙-zero, ⊙-ring}
use Rattle.series.specs.Series.{Series, ◌⊞◌, ◌⊠◌, K, Z, ⊞-at, K-⊠-at, Z-⊠_at0, tail_at, tail, ⊠-ring}
use Rattle.key_equation.specs.Shared.{ahead, swaps}
use Rattle.key_equation.specs.Plain as Plain
use Rattle.key_equation.specs.Lookahead as Lookahead
use Rattle.key_equation.specs.Claim.{lookahead_is}
use Rattle.key_equation.specs.Ahead.{Agree, δ-ahead, ahead-next, ahead-next-Z}
use Rattle.key_equation.specs.Ahead.{ahead-update, ahead_enter, ahead-zero}

pub start_is : (S : Series) → ((i : ℕ) → S i ≡ 𝟎) → Lookahead.start ≡ lookahead_is 0 S Plain.start
start_is S z = λ i. record {
  Λ = K 𝟏;
  B = K 𝟏;
  γ = 𝟏;
  k = (Plain.start).k;
  Δ = sym (ahead-zero 0 (K 𝟏) S z) i;
  Θ = sym (ahead-zero 0 (K 𝟏) S z) i;
  γS = none 𝟏 1 i;
  δS = none (ahead 0 (K 𝟏) S 0) 1 i;
  θS = none (ahead 0 (K 𝟏) S 0) 2 i;
  g1 = none (S 1) 3 i;
  g2 = none (S 2) 3 i;
  h1 = none 𝟏 2 i;
  h2 = none (𝟏 ⊙ S 1) 2 i;
}
  where
    none : (x : F) (j : ℕ) → 𝟎 ≡ x ⊙ S j
    none x j = sym (rw (z j) (⊙-zero x))

pub enter-is : (u : ℕ) (S S' : Series) (m : Plain.State) → Agree u S S' → S u ≡ 𝟎
    → Lookahead.enter u S' (lookahead_is u S m) ≡ lookahead_is u S' m
enter-is u S S' m h z = λ i. record {
  Λ = m.Λ;
  B = m.B;
  γ = m.γ;
  k = m.k;
  Δ = sym (ahead_enter u m.Λ S S' h z) i;
  Θ = sym (ahead_enter u m.B S S' h z) i;
  γS = m.γ ⊙ S' (u + 1);
  δS = scalar m.Λ (S' (u + 1)) i;
  θS = scalar m.B (S' (u + 2)) i;
  g1 = S' (u + 1) ⊙ S' (u + 3);
  g2 = S' (u + 2) ⊙ S' (u + 3);
  h1 = m.γ ⊙ S' (u + 2);
  h2 = m.γ ⊙ S' (u + 1) ⊙ S' (u + 2);
}
  where
    scalar : (f : Series) (x : F) → x ⊙ ahead u f S 0 ⊕ x ⊙ S' u ⊙ f 0 ≡ ahead u f S' 0 ⊙ x
    scalar f x = sym (ap (λ t. t 0 ⊙ x) (ahead_enter u f S S' h z) ∙ simp (⊞-at, K-⊠-at, ⊙-ring))

-- ---- an iteration

module _ (r : ℕ) (S : Series) (m : Plain.State) where
  abbrev w : Lookahead.State
  w = lookahead_is r S m

  abbrev δ : F
  δ = ahead r m.Λ S 0

  Δ-is : Lookahead.next_Δ w ≡ ahead (suc r) (Plain.update δ m) S
  Δ-is =
      let e : ahead (suc r) (Plain.update δ m) S
      ≡ K m.γ ⊠ tail (ahead r m.Λ S) ⊞ K (m.γ ⊙ S (r + 1)) ⊠ m.Λ ⊞ K δ ⊠ ahead r m.B S
      ⊞ K (δ ⊙ S (r + 1)) ⊠ (Z ⊠ m.B) = ahead-update r m.γ δ m.Λ m.B S ∙ simp (towards_suc, ⊠-ring) in
      sym e

  δS-is : m.γ ⊙ S (r + 2) ⊙ ahead r m.Λ S 1 ⊕ m.γ ⊙ S (r + 1) ⊙ S (r + 2) ⊙ m.Λ 0
      ⊕ δ ⊙ (ahead r m.B S 0 ⊙ S (r + 2))
      ≡ Lookahead.next_Δ w 0 ⊙ S (r + 2)
  δS-is =
      let e : m.γ ⊙ S (r + 2) ⊙ ahead r m.Λ S 1 ⊕ m.γ ⊙ S (r + 1) ⊙ S (r + 2) ⊙ m.Λ 0
      ⊕ δ ⊙ (ahead r m.B S 0 ⊙ S (r + 2))
      ≡ (K m.γ ⊠ tail (ahead r m.Λ S) ⊞ K (m.γ ⊙ S (r + 1)) ⊠ m.Λ ⊞ K δ ⊠ ahead r m.B S
      ⊞ K (δ ⊙ S (r + 1)) ⊠ (Z ⊠ m.B)) 0 ⊙ S (r + 2) = simp (⊞-at, K-⊠-at, Z-⊠_at0, tail_at, ⊙-ring) in
      e

  -- what a swap and a hold share: the lines with whatever new B, γ and k, and Θ and θ_S to suit B
  abbrev stepped : (B Θ : Series) (γ θS : F) (k : ℤ) → Lookahead.State
  stepped B Θ γ θS k = record {
    Λ = Lookahead.next_Λ w;
    B = B;
    γ = γ;
    k = k;
    Δ = Lookahead.next_Δ w;
    Θ = Θ;
    γS = γ ⊙ S (r + 2);
    δS = Lookahead.next_δS w;
    θS = θS;
    g1 = S (r + 2) ⊙ S (r + 4);
    g2 = S (r + 3) ⊙ S (r + 4);
    h1 = γ ⊙ S (r + 3);
    h2 = γ ⊙ w.g2;
  }

  stepped-is : (B Θ : Series) (γ θS : F) (k : ℤ) → Θ ≡ ahead (suc r) B S → θS ≡ Θ 0 ⊙ S (r + 3)
      → stepped B Θ γ θS k ≡ lookahead_is (suc r) S (record { Λ = Plain.update δ m; B = B; γ = γ; k = k })
  stepped-is B Θ γ θS k Θ-is θS-is = λ i. record {
    Λ = Plain.update δ m;
    B = B;
    γ = γ;
    k = k;
    Δ = Δ-is i;
    Θ = Θ-is i;
    γS = γ ⊙ S (at_1 i);
    δS = (δS-is ∙ (λ j. Δ-is j 0 ⊙ S (at_1 j))) i;
    θS = (θS-is ∙ (λ j. Θ-is j 0 ⊙ S (at_2 j))) i;
    g1 = S (at_1 i) ⊙ S (at_3 i);
    g2 = S (at_2 i) ⊙ S (at_3 i);
    h1 = γ ⊙ S (at_2 i);
    h2 = h2-is i;
  }
    where
      at_1 : r + 2 ≡ suc r + 1
      at_1 = simp towards_suc

      at_2 : r + 3 ≡ suc r + 2
      at_2 = simp towards_suc

      at_3 : r + 4 ≡ suc r + 3
      at_3 = simp towards_suc

      h2-is : γ ⊙ (S (r + 2) ⊙ S (r + 3)) ≡ γ ⊙ S (suc r + 1) ⊙ S (suc r + 2)
      h2-is = simp (towards_suc, ⊙-ring)

  swap_is : Lookahead.swap r S w ≡ lookahead_is (suc r) S (Plain.swap δ m)
  swap_is = stepped-is m.Λ _ δ _ _ Θ-is θS-is
    where
      Θ-is : tail (ahead r m.Λ S) ⊞ K (S (r + 1)) ⊠ m.Λ ≡ ahead (suc r) m.Λ S
      Θ-is = sym (ahead-next r m.Λ S ∙ simp towards_suc)

      θS-is : S (r + 3) ⊙ ahead r m.Λ S 1 ⊕ S (r + 1) ⊙ S (r + 3) ⊙ m.Λ 0
          ≡ (tail (ahead r m.Λ S) ⊞ K (S (r + 1)) ⊠ m.Λ) 0 ⊙ S (r + 3)
      θS-is = simp (⊞-at, K-⊠-at, tail_at, ⊙-ring)

  hold-is : Lookahead.hold r S w ≡ lookahead_is (suc r) S (Plain.hold δ m)
  hold-is = stepped-is (Z ⊠ m.B) _ m.γ _ _ Θ-is θS-is
    where
      Θ-is : ahead r m.B S ⊞ K (S (r + 1)) ⊠ (Z ⊠ m.B) ≡ ahead (suc r) (Z ⊠ m.B) S
      Θ-is = sym (ahead-next-Z r m.B S ∙ simp towards_suc)

      θS-is : S (r + 3) ⊙ ahead r m.B S 0 ≡ (ahead r m.B S ⊞ K (S (r + 1)) ⊠ (Z ⊠ m.B)) 0 ⊙ S (r + 3)
      θS-is = simp (⊞-at, K-⊠-at, Z-⊠_at0, ⊙-ring)

  pub swapping-is : Lookahead.swapping r S (lookahead_is r S m) ≡ Plain.swapping r S m
  swapping-is = rw (δ-ahead r S m) refl

  pub iterate-is : Lookahead.iterate r S (lookahead_is r S m) ≡ lookahead_is (suc r) S (Plain.iterate r S m)
  unfolding Lookahead.iterate Plain.iterate
  iterate-is = rw (δ-ahead r S m) (go (swaps δ m.k))
    where
      go : (b : Bool) → cond b (Lookahead.swap r S w) (Lookahead.hold r S w)
          ≡ lookahead_is (suc r) S (cond b (Plain.swap δ m) (Plain.hold δ m))
      go true = swap_is
      go false = hold-is
