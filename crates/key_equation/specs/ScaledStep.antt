-- The scaled form keeps its state as defined (`scaled_is`): at the start (start_is), through an entry (enter-is),
-- through an iteration (iterate-is); and it swaps with the plain form (swapping-is).
--
-- An iteration multiplies by scalars ρ and ξ. Its lines hold for any that make a new factor a', that is aρ = a'γ and
-- bξ = a'δ; only the proofs of such equations tell δ = 0 from δ ≠ 0, and a swap from a hold.
use Rattle.std.specs.Prelude.{ℕ, suc, ◌+◌, ◌≡◌, Bool, ◌≢◌, ℤ, pos}
use Rattle.std.proofs.Math.Path.{refl}
use Rattle.std.proofs.Common.{sym, ap, ap₂, ◌∙◌, add-one}
use Rattle.std.proofs.Math.Bool.{true, false, cond}
use Rattle.field.specs.Field.{F, 𝟎, 𝟏, ◌⊙◌, inv, is_zero, ⊙_assoc, ⊙_comm, ⊙-one, one-⊙, ⊙-zero, ⊙-ring, one≢zero}
use Rattle.field.specs.Field.{is_zero_yes, is_zero_no, is_zero_true, is_zero_false}
use Rattle.field.proofs.Field.{inv_mul, ⊙_nonzero}
use Rattle.series.specs.Series.{Series, O, ◌⊞◌, ◌⊠◌, K, Z, tail, tail-K-⊠, K-⊠-at, O-at, K-zero}
use Rattle.series.specs.Series.{⊠-zero, zero-⊠, ⊠-left_comm, ⊠-ring}
use Rattle.key_equation.specs.Shared.{ahead, swaps, or_one}
use Rattle.key_equation.specs.Plain as Plain
use Rattle.key_equation.specs.Scaled as Scaled
use Rattle.key_equation.specs.Run.{Factors, next_factors}
use Rattle.key_equation.specs.Claim.{scaled_is}
use Rattle.key_equation.specs.Ahead.{Agree, δ-ahead, ahead-next, ahead-next-Z, ahead-update, ahead_enter}
use Rattle.key_equation.specs.Ahead.{ahead-zero, swaps_nonzero, or_one_nonzero, or_one-zero}

pub start_is : (S : Series) → ((i : ℕ) → S i ≡ 𝟎) → Scaled.start ≡ scaled_is 0 S Plain.start (record { a = 𝟏; b = 𝟏 })
start_is S z = held ∙ (λ i. Scaled.holding 0 S (poly i) (poly i) (sym (⊙-one 𝟏) i) (pos 0) (none i) (none i))
  where
    poly : K 𝟏 ≡ K (𝟏 ⊙ or_one (S 0)) ⊠ K 𝟏
    poly = rw (or_one-zero (S 0) (z 0)) (simp (⊠-ring, ⊙-one))

    none : O ≡ K 𝟏 ⊠ ahead 0 (K 𝟏) S
    none = sym (rw (ahead-zero 0 (K 𝟏) S z) (⊠-zero _))

    g-is : 𝟏 ≡ Scaled.ratio 0 S
    g-is = sym (rw (or_one-zero (S 0) (z 0), or_one-zero (S 1) (z 1), ⊙_comm) (inv_mul 𝟏 one≢zero))

    ρ-is : 𝟏 ≡ Scaled.rho 𝟏 (O 0)
    ρ-is = rw (is_zero_yes (O 0) (O-at 0)) refl

    ξ-is : 𝟎 ≡ O 0
    ξ-is = sym (O-at 0)

    held : Scaled.start ≡ Scaled.holding 0 S (K 𝟏) (K 𝟏) 𝟏 (pos 0) O O
    held = λ i. record {
      Λ = K 𝟏;
      B = K 𝟏;
      γ' = 𝟏;
      k = pos 0;
      Δ = O;
      Θ = O;
      g = g-is i;
      ρ = ρ-is i;
      ξ = ξ-is i;
      ρS = (sym (⊙-one 𝟏) ∙ ap₂ ◌⊙◌ g-is ρ-is) i;
      ξS = (sym (⊙-zero 𝟏) ∙ ap₂ ◌⊙◌ g-is ξ-is) i;
    }

pub enter-is : (u : ℕ) (S S' : Series) (m : Plain.State) (x : Factors) → Agree u S S' → S u ≡ 𝟎
    → Scaled.enter u S' (scaled_is u S m x) ≡ scaled_is u S' m x
enter-is u S S' m x h z = λ i. Scaled.holding u S'
    (poly m.Λ x.a i)
    (poly m.B x.b i)
    (x.b ⊙ m.γ)
    m.k
    (sums m.Λ x.a i)
    (sums m.B x.b i)
  where
    poly : (f : Series) (c : F) → K (or_one (S' u)) ⊠ (K (c ⊙ or_one (S u)) ⊠ f) ≡ K (c ⊙ or_one (S' u)) ⊠ f
    poly f c = rw (or_one-zero (S u) z, ⊙-one) (simp ⊠-ring)

    sums : (f : Series) (c : F) → K c ⊠ ahead u f S ⊞ K (S' u) ⊠ (K (c ⊙ or_one (S u)) ⊠ f) ≡ K c ⊠ ahead u f S'
    sums f c = rw (or_one-zero (S u) z, ⊙-one, ahead_enter u f S S' h z) (simp ⊠-ring)

-- ---- the lines of an iteration

-- two constant factors, of which the product is known; on a series, on a constant
scale : (x y c : F) (f : Series) → y ⊙ x ≡ c → K x ⊠ (K y ⊠ f) ≡ K c ⊠ f
scale x y c f h = rw (← h) (simp ⊠-ring)

scale-⊙ : (x y c z : F) → y ⊙ x ≡ c → x ⊙ (y ⊙ z) ≡ c ⊙ z
scale-⊙ x y c z h = rw (← h) (simp ⊙-ring)

-- a term that is left out where x is 0 may stand with the factor x
unless-is : (x c : F) (f : Series) → Scaled.unless x (K (c ⊙ or_one x) ⊠ f) ≡ K x ⊠ (K c ⊠ f)
unfolding Scaled.unless or_one
unless-is x c f = go (is_zero x) refl
  where
    go : (b : Bool) → is_zero x ≡ b → cond b O (K (c ⊙ cond b 𝟏 x) ⊠ f) ≡ K x ⊠ (K c ⊠ f)
    go true e = sym (rw (is_zero_true x e, K-zero) (zero-⊠ _))
    go false e = sym (scale x c _ f refl)

-- a scalar x·q/p, on what has the factor cp: what is left is q and the factor e = cx
shift : (p q x c e : F) → p ≢ 𝟎 → c ⊙ x ≡ e → (c ⊙ p) ⊙ (q ⊙ inv p ⊙ x) ≡ e ⊙ q
shift p q x c e n h =
    let s : (c ⊙ p) ⊙ (q ⊙ inv p ⊙ x) ≡ (inv p ⊙ p) ⊙ ((c ⊙ x) ⊙ q) = simp ⊙-ring in
    s ∙ rw (inv_mul p n, one-⊙, h) refl

module _ (r : ℕ) (S : Series) where
  abbrev g : F
  g = Scaled.ratio r S

  abbrev p : F
  p = or_one (S r)

  abbrev q : F
  q = or_one (S (r + 1))

  -- a line with one scalar x, which makes the factor c into e
  module _ (x c e : F) (h : c ⊙ x ≡ e) where
    line : (f : Series) → K (g ⊙ x) ⊠ (K (c ⊙ p) ⊠ f) ≡ K (e ⊙ q) ⊠ f
    line f = scale _ _ _ f (shift p q x c e (or_one_nonzero (S r)) h)

    line-Z : (f : Series) → K (g ⊙ x) ⊠ (Z ⊠ (K (c ⊙ p) ⊠ f)) ≡ K (e ⊙ q) ⊠ (Z ⊠ f)
    line-Z f = ap (λ t. K (g ⊙ x) ⊠ t) (⊠-left_comm Z _ f) ∙ line (Z ⊠ f)

    Θ-swap : (f : Series)
        → K x ⊠ tail (K c ⊠ ahead r f S) ⊞ Scaled.unless (S (r + 1)) (K (g ⊙ x) ⊠ (K (c ⊙ p) ⊠ f))
        ≡ K e ⊠ ahead (r + 1) f S
    Θ-swap f = rw (line, unless-is, tail-K-⊠, scale x c e (tail (ahead r f S)) h, add-one, ahead-next) (simp ⊠-ring)

    Θ-hold : (f : Series)
        → K x ⊠ (K c ⊠ ahead r f S) ⊞ Scaled.unless (S (r + 1)) (K (g ⊙ x) ⊠ (Z ⊠ (K (c ⊙ p) ⊠ f)))
        ≡ K e ⊠ ahead (r + 1) (Z ⊠ f) S
    Θ-hold f = rw (line-Z, unless-is, scale x c e (ahead r f S) h, add-one, ahead-next-Z) (simp ⊠-ring)

  module _ (m : Plain.State) (δ a b a' ρ ξ : F) (hρ : a ⊙ ρ ≡ a' ⊙ m.γ) (hξ : b ⊙ ξ ≡ a' ⊙ δ) where
    Λ-is : K (g ⊙ ρ) ⊠ (K (a ⊙ p) ⊠ m.Λ) ⊞ K (g ⊙ ξ) ⊠ (Z ⊠ (K (b ⊙ p) ⊠ m.B)) ≡ K (a' ⊙ q) ⊠ Plain.update δ m
    Λ-is = ap₂ ◌⊞◌ (line ρ a _ hρ m.Λ) (line-Z ξ b _ hξ m.B) ∙ simp ⊠-ring

    Δ-is : K ρ ⊠ tail (K a ⊠ ahead r m.Λ S) ⊞ K ξ ⊠ (K b ⊠ ahead r m.B S)
        ⊞ Scaled.unless (S (r + 1)) (K (g ⊙ ρ) ⊠ (K (a ⊙ p) ⊠ m.Λ) ⊞ K (g ⊙ ξ) ⊠ (Z ⊠ (K (b ⊙ p) ⊠ m.B)))
        ≡ K a' ⊠ ahead (r + 1) (Plain.update δ m) S
    Δ-is =
        rw (
          Λ-is,
          unless-is,
          tail-K-⊠,
          scale ρ a _ (tail (ahead r m.Λ S)) hρ,
          scale ξ b _ (ahead r m.B S) hξ,
          add-one,
          ahead-update,
        )
        (simp ⊠-ring)

-- ---- an iteration

module _ (r : ℕ) (S : Series) (m : Plain.State) (x : Factors) (a≢0 : x.a ≢ 𝟎) (γ≢0 : m.γ ≢ 𝟎) where
  abbrev w : Scaled.State
  w = scaled_is r S m x

  abbrev δ : F
  δ = ahead r m.Λ S 0

  -- the constant term of the scaled Δ: zero where δ is
  abbrev d : F
  d = (K x.a ⊠ ahead r m.Λ S) 0

  d-is : d ≡ x.a ⊙ δ
  d-is = K-⊠-at x.a (ahead r m.Λ S) 0

  d-zero : is_zero d ≡ is_zero δ
  d-zero = rw d-is (go (is_zero δ) refl)
    where
      go : (b : Bool) → is_zero δ ≡ b → is_zero (x.a ⊙ δ) ≡ is_zero δ
      go true e = is_zero_yes _ (rw (is_zero_true δ e) (⊙-zero x.a)) ∙ sym e
      go false e = is_zero_no _ (⊙_nonzero x.a δ a≢0 (is_zero_false δ e)) ∙ sym e

  -- the scalars make the new factor a
  abbrev a' : F
  a' = (next_factors δ m.γ true x).a

  ρ-is : x.a ⊙ Scaled.rho (x.b ⊙ m.γ) d ≡ a' ⊙ m.γ
  ρ-is = rw d-zero (go (is_zero δ))
    where
      go : (z : Bool) → x.a ⊙ cond z 𝟏 (x.b ⊙ m.γ) ≡ cond z (x.a ⊙ inv m.γ) (x.a ⊙ x.b) ⊙ m.γ
      go true = ⊙-one _ ∙ sym (⊙_assoc _ _ _ ∙ rw (inv_mul m.γ γ≢0) (⊙-one _))
      go false = sym (⊙_assoc _ _ _)

  ξ-is : x.b ⊙ d ≡ a' ⊙ δ
  ξ-is = rw d-is (go (is_zero δ) refl)
    where
      go : (z : Bool) → is_zero δ ≡ z → x.b ⊙ (x.a ⊙ δ) ≡ cond z (x.a ⊙ inv m.γ) (x.a ⊙ x.b) ⊙ δ
      go true e = rw (is_zero_true δ e) (simp ⊙-ring)
      go false e = simp ⊙-ring

  -- Λ and Δ as above; B, γ' and Θ with the new factor b
  stepped-is : (B Θ B₁ : Series) (γ' γ₁ b' : F) (k : ℤ)
      → B ≡ K (b' ⊙ or_one (S (r + 1))) ⊠ B₁ → γ' ≡ b' ⊙ γ₁ → Θ ≡ K b' ⊠ ahead (r + 1) B₁ S
      → Scaled.holding (r + 1) S (Scaled.next_Λ w) B γ' k (Scaled.next_Δ r S w) Θ
      ≡ scaled_is (suc r) S (record { Λ = Plain.update δ m; B = B₁; γ = γ₁; k = k }) (record { a = a'; b = b' })
  stepped-is B Θ B₁ γ' γ₁ b' k B-is γ-is Θ-is =
      (λ i. Scaled.holding (r + 1) S
      (Λ-is r S m δ x.a x.b a' w.ρ w.ξ ρ-is ξ-is i)
      (B-is i)
      (γ-is i)
      k
      (Δ-is r S m δ x.a x.b a' w.ρ w.ξ ρ-is ξ-is i)
      (Θ-is i))
      ∙ ap (λ n. scaled_is n S (record { Λ = Plain.update δ m; B = B₁; γ = γ₁; k = k }) (record { a = a'; b = b' }))
      (add-one r)

  module _ (δ≢0 : δ ≢ 𝟎) where
    abbrev b_swap : F
    b_swap = (next_factors δ m.γ true x).b

    ρ-swap : x.a ⊙ Scaled.rho (x.b ⊙ m.γ) d ≡ b_swap
    ρ-swap = rw (d-zero, is_zero_no δ δ≢0) (sym (⊙_assoc _ _ _))

    γ-swap : Scaled.rho (x.b ⊙ m.γ) d ⊙ d ≡ b_swap ⊙ δ
    γ-swap = ap (λ t. Scaled.rho (x.b ⊙ m.γ) d ⊙ t) d-is ∙ scale-⊙ _ _ _ δ ρ-swap

    swap_is : Scaled.swap r S w ≡ scaled_is (suc r) S (Plain.swap δ m) (next_factors δ m.γ true x)
    swap_is = stepped-is _ _ m.Λ _ δ b_swap _ (line r S w.ρ x.a _ ρ-swap m.Λ) γ-swap
        (Θ-swap r S w.ρ x.a _ ρ-swap m.Λ)

  abbrev b_hold : F
  b_hold = (next_factors δ m.γ false x).b

  ξ_hold : x.b ⊙ Scaled.ξ_hold w ≡ b_hold
  ξ_hold = rw (d-zero, d-is) (go (is_zero δ))
    where
      go : (z : Bool) → x.b ⊙ cond z 𝟏 (x.a ⊙ δ) ≡ cond z x.b (x.a ⊙ x.b ⊙ δ)
      go true = ⊙-one _
      go false = simp ⊙-ring

  ξS_hold : Scaled.ξS_hold w ≡ Scaled.ratio r S ⊙ Scaled.ξ_hold w
  ξS_hold = go (is_zero d)
    where
      go : (z : Bool) → cond z (Scaled.ratio r S) (Scaled.ratio r S ⊙ d) ≡ Scaled.ratio r S ⊙ cond z 𝟏 d
      go true = sym (⊙-one _)
      go false = refl

  hold-is : Scaled.hold r S w ≡ scaled_is (suc r) S (Plain.hold δ m) (next_factors δ m.γ false x)
  hold-is =
      stepped-is _ _ (Z ⊠ m.B) _ m.γ b_hold _
      (ap (λ t. K t ⊠ (Z ⊠ w.B)) ξS_hold ∙ line-Z r S (Scaled.ξ_hold w) x.b _ ξ_hold m.B)
      (scale-⊙ _ _ _ m.γ ξ_hold)
      (ap (λ t. K (Scaled.ξ_hold w) ⊠ w.Θ ⊞ Scaled.unless (S (r + 1)) (K t ⊠ (Z ⊠ w.B))) ξS_hold
      ∙ Θ-hold r S (Scaled.ξ_hold w) x.b _ ξ_hold m.B)

  pub swapping-is : Scaled.swapping r S (scaled_is r S m x) ≡ Plain.swapping r S m
  unfolding swaps
  swapping-is = rw (δ-ahead r S m, d-zero) refl

  pub iterate-is : Scaled.iterate r S (scaled_is r S m x)
      ≡ scaled_is (suc r) S (Plain.iterate r S m) (next_factors (Plain.δ r S m) m.γ (Plain.swapping r S m) x)
  unfolding Scaled.iterate Plain.iterate
  iterate-is = rw (swapping-is, δ-ahead r S m) (go (swaps δ m.k) refl)
    where
      go : (b : Bool) → swaps δ m.k ≡ b
          → cond b (Scaled.swap r S w) (Scaled.hold r S w)
          ≡ scaled_is (suc r) S (cond b (Plain.swap δ m) (Plain.hold δ m)) (next_factors δ m.γ b x)
      go true e = swap_is (swaps_nonzero δ m.k e)
      go false e = hold-is
