-- What the iteration finds: after r iterations over S, the shortest solution of the key equation, and how every other
-- one comes from it.
--
--   Invariant S r m      what holds of the plain state m after r iterations. L is the length. P and Q stand to Λ and zB
--                        as numerators: Λ·S and P agree below r, and so do zB·S and Q
--   length S r           L of the measure
--   c S r                γ·Λ_0 of the measure
--   Solution S r σ ω e   σ and ω solve the key equation of S below r with length e
--
-- Proved: the invariant of the measure; FORMAT's k and length are those of L; Λ and P are a solution of length L;
-- no solution is shorter (shortest); a solution that is not too long is a multiple of Λ and P (unique).
use Rattle.std.specs.Prelude.{ℕ, zero, suc, ◌+◌, ◌-◌, ◌≤◌, ◌<◌, ◌≡◌, ◌≢◌, pos}
use Rattle.std.proofs.Common.{sym, ap, ◌∙◌, arith}
use Rattle.std.proofs.Math.Path.{subst}
use Rattle.std.proofs.Math.Bool.{Bool, cond}
use Rattle.std.proofs.Math.Decide.{dec_le}
use Rattle.field.specs.Field.{F, 𝟎, 𝟏, ◌⊙◌, ⊕_self, ⊕-zero, ⊕-equal, ⊙_comm, zero-⊙, one≢zero, ◌≟◌}
use Rattle.field.proofs.Field.{⊙_nonzero}
use Rattle.series.specs.Series.{Series, O, K, Z, ◌⊞◌, ◌⊠◌, tail, at_zero, K_at0, K-⊠-at, ⊞-at, ⊠-one, Z-tail, ⊞_lc}
use Rattle.series.specs.Shift.{zpow, drop, zpow-ring, zpow_at0, zpow-low, zpow_cancel, zpow_divide}
use Rattle.series.specs.Degree.{below, below_weaken, below-O, below-K, below-Z, below-⊞, below-⊠, below-K-⊠, below-Z-⊠}
use Rattle.series.specs.Degree.{below_divide, below_none}
use Rattle.key_equation.specs.Shared.{swaps, k_swap, k_hold, len}
use Rattle.key_equation.specs.Plain as Plain
use Rattle.key_equation.specs.Run.{measure}
use Rattle.key_equation.specs.Ahead.{δ_convolution}
use Rattle.key_equation.specs.Length.{k_of, k_of-start, k_of-hold, k_of-swap, swaps-of_yes}
use Rattle.key_equation.specs.Length.{swaps-of-zero, swaps-of-long, len_of}

-- ---- the invariant

-- The proof plan's invariant (its section 3). Statement 1 is key, aux, E0, γ≢0 and Λ0≢0, with the agreement below r
-- as an equation: D and E are what stands from r on. Statement 2 is short and the degrees. Statement 3, divided by
-- z^r, is unit.
pub record Invariant (S : Series) (r : ℕ) (m : Plain.State) : Type 0 where
  pub L : ℕ
  pub P : Series
  pub Q : Series
  pub D : Series
  pub E : Series
  pub k_is : m.k ≡ k_of r L
  pub key : m.Λ ⊠ S ⊞ P ≡ zpow r ⊠ D
  pub aux : Z ⊠ m.B ⊠ S ⊞ Q ≡ zpow r ⊠ E
  pub unit : m.Λ ⊠ E ⊞ Z ⊠ m.B ⊠ D ≡ K (m.γ ⊙ m.Λ 0)
  pub E0 : E 0 ≡ m.γ
  pub short : L ≤ r
  pub below_Λ : below (suc L) m.Λ
  pub below_P : below L P
  pub below_B : below (suc (suc r) - L) (Z ⊠ m.B)
  pub below_Q : below (suc r - L) Q
  pub γ≢0 : m.γ ≢ 𝟎
  pub Λ0≢0 : m.Λ 0 ≢ 𝟎

at-start : (S : Series) → Invariant S 0 Plain.start
at-start S = record {
  L = 0;
  P = O;
  Q = K 𝟏;
  D = S;
  E = Z ⊠ S ⊞ K 𝟏;
  k_is = sym k_of-start;
  key = simp zpow-ring;
  aux = simp zpow-ring;
  unit = simp (zpow-ring, at_zero);
  E0 = simp at_zero;
  short = omega arith;
  below_Λ = below-K 𝟏;
  below_P = below-O 0;
  below_B = rw ⊠-one below-Z;
  below_Q = below-K 𝟏;
  γ≢0 = one≢zero;
  Λ0≢0 = rw K_at0 one≢zero;
}

-- the state m, with the discrepancy d, iterated
module _ (S : Series) (r : ℕ) (m : Plain.State) (v : Invariant S r m) where
  abbrev d : F
  d = Plain.δ r S m

  abbrev Λ' : Series
  Λ' = Plain.update d m

  abbrev P' : Series
  P' = K m.γ ⊠ v.P ⊞ K d ⊠ v.Q

  -- the discrepancy is the first coefficient ahead
  D0 : v.D 0 ≡ d
  D0 = sym (δ_convolution r S m
      ∙ (simp (⊞-at, v.below_P r v.short, ⊕-zero) at (ap (λ f. f r) v.key)) ∙ zpow_at0 r v.D)

  D' : Series
  D' = tail (K m.γ ⊠ v.D ⊞ K d ⊠ v.E)

  Z-D' : Z ⊠ D' ≡ K m.γ ⊠ v.D ⊞ K d ⊠ v.E
  unfolding D'
  Z-D' = Z-tail _ (simp (at_zero, D0, v.E0, ⊙_comm, ⊕_self))

  key' : Λ' ⊠ S ⊞ P' ≡ zpow (suc r) ⊠ D'
  key' = ⊞_lc (λ i. K m.γ ⊠ v.key i ⊞ K d ⊠ v.aux i ⊞ zpow r ⊠ Z-D' i) (simp zpow-ring)

  Λ'0 : Λ' 0 ≡ m.γ ⊙ m.Λ 0
  Λ'0 = simp at_zero

  Λ'0≢0 : Λ' 0 ≢ 𝟎
  Λ'0≢0 = rw Λ'0 (⊙_nonzero _ _ v.γ≢0 v.Λ0≢0)

  aux-hold : Z ⊠ (Z ⊠ m.B) ⊠ S ⊞ Z ⊠ v.Q ≡ zpow (suc r) ⊠ v.E
  aux-hold = ⊞_lc (λ i. Z ⊠ v.aux i) (simp zpow-ring)

  aux-swap : Z ⊠ m.Λ ⊠ S ⊞ Z ⊠ v.P ≡ zpow (suc r) ⊠ v.D
  aux-swap = ⊞_lc (λ i. Z ⊠ v.key i) (simp zpow-ring)

  unit-hold : Λ' ⊠ v.E ⊞ Z ⊠ (Z ⊠ m.B) ⊠ D' ≡ K (m.γ ⊙ Λ' 0)
  unit-hold = rw Λ'0 (⊞_lc (λ i. K m.γ ⊠ v.unit i ⊞ Z ⊠ m.B ⊠ Z-D' i) (simp zpow-ring))

  unit-swap : Λ' ⊠ v.D ⊞ Z ⊠ m.Λ ⊠ D' ≡ K (d ⊙ Λ' 0)
  unit-swap = rw Λ'0 (⊞_lc (λ i. K d ⊠ v.unit i ⊞ m.Λ ⊠ Z-D' i) (simp zpow-ring))

  below-sum : (j k n : ℕ) (f g : Series) → below j f → below k g → j ≤ n → k ≤ n → below n (K m.γ ⊠ f ⊞ K d ⊠ g)
  below-sum j k n f g p q h l =
      below-⊞ n _ _ (below-K-⊠ n _ f (below_weaken j n f p h)) (below-K-⊠ n _ g (below_weaken k n g q l))

  -- at a hold the two new terms have to keep the degrees: d = 0, or 2L > r
  at-hold : below (suc v.L) (K d ⊠ (Z ⊠ m.B)) → below v.L (K d ⊠ v.Q) → Invariant S (suc r) (Plain.hold d m)
  at-hold p q = record {
    L = v.L;
    P = P';
    Q = Z ⊠ v.Q;
    D = D';
    E = v.E;
    k_is = ap k_hold v.k_is ∙ k_of-hold r v.L;
    key = key';
    aux = aux-hold;
    unit = unit-hold;
    E0 = v.E0;
    short = omega (arith, v.short);
    below_Λ = below-⊞ _ _ _ (below-K-⊠ _ _ _ v.below_Λ) p;
    below_P = below-⊞ _ _ _ (below-K-⊠ _ _ _ v.below_P) q;
    below_B = below_weaken _ _ _ (below-Z-⊠ _ _ v.below_B) (omega (arith, v.short));
    below_Q = below_weaken _ _ _ (below-Z-⊠ _ _ v.below_Q) (omega (arith, v.short));
    γ≢0 = v.γ≢0;
    Λ0≢0 = Λ'0≢0;
  }

  at-swap : d ≢ 𝟎 → v.L + v.L ≤ r → Invariant S (suc r) (Plain.swap d m)
  at-swap p q = record {
    L = suc r - v.L;
    P = P';
    Q = Z ⊠ v.P;
    D = D';
    E = v.D;
    k_is = ap k_swap v.k_is ∙ k_of-swap r v.L q;
    key = key';
    aux = aux-swap;
    unit = unit-swap;
    E0 = D0;
    short = omega arith;
    below_Λ = below-sum _ _ _ _ _ v.below_Λ v.below_B (omega arith) (omega arith);
    below_P = below-sum _ _ _ _ _ v.below_P v.below_Q (omega arith) (omega arith);
    below_B = below_weaken _ _ _ (below-Z-⊠ _ _ v.below_Λ) (omega arith);
    below_Q = below_weaken _ _ _ (below-Z-⊠ _ _ v.below_P) (omega arith);
    γ≢0 = p;
    Λ0≢0 = Λ'0≢0;
  }

  at-iterate : Invariant S (suc r) (Plain.iterate r S m)
  unfolding Plain.iterate
  at-iterate =
      subst (λ k. Invariant S (suc r) (chosen (swaps d k))) (sym v.k_is) (go (d ≟ 𝟎) (dec_le (v.L + v.L) r))
    where
      chosen : Bool → Plain.State
      chosen b = cond b (Plain.swap d m) (Plain.hold d m)

      go : Dec (d ≡ 𝟎) → Dec (v.L + v.L ≤ r) → Invariant S (suc r) (chosen (swaps d (k_of r v.L)))
      go (yes p) l =
          rw (swaps-of-zero d r v.L p) (at-hold (λ i h. simp (K-⊠-at, p, zero-⊙)) (λ i h. simp (K-⊠-at, p, zero-⊙)))
      go (no p) (yes l) = rw (swaps-of_yes d r v.L p l) (at-swap p l)
      go (no p) (no l) = rw (swaps-of-long d r v.L (omega arith)) (at-hold
          (below_weaken _ _ _ (below-K-⊠ _ _ _ v.below_B) (omega arith))
          (below_weaken _ _ _ (below-K-⊠ _ _ _ v.below_Q) (omega arith)))

pub invariant : (S : Series) (r : ℕ) → Invariant S r (measure S r)
unfolding measure
invariant S zero = at-start S
invariant S (suc r) = at-iterate S r (measure S r) (invariant S r)

-- ---- what the invariant says of the measure

abbrev pub length : Series → ℕ → ℕ
length S r = (invariant S r).L

unfoldable pub c : Series → ℕ → F
c S r = (measure S r).γ ⊙ (measure S r).Λ 0

pub record Solution (S : Series) (r : ℕ) (σ ω : Series) (e : ℕ) : Type 0 where
  pub σ0≢0 : σ 0 ≢ 𝟎
  pub below_σ : below (suc e) σ
  pub below_ω : below e ω
  pub agree : (i : ℕ) → i < r → (σ ⊠ S) i ≡ ω i

module _ (S : Series) (r : ℕ) where
  abbrev m : Plain.State
  m = measure S r

  abbrev v : Invariant S r m
  v = invariant S r

  pub k_is : m.k ≡ k_of r (length S r)
  k_is = v.k_is

  pub length_is : len r m.k ≡ pos (length S r)
  length_is = ap (len r) k_is ∙ len_of r (length S r)

  -- statement 1, for coefficients
  pub key-low : (i : ℕ) → i < r → (m.Λ ⊠ S) i ≡ v.P i
  key-low i h = ⊕-equal _ _ (sym (⊞-at _ _ i) ∙ ap (λ f. f i) v.key ∙ zpow-low _ _ i h)

  -- statement 3
  pub c≢0 : c S r ≢ 𝟎
  unfolding c
  c≢0 = ⊙_nonzero _ _ v.γ≢0 v.Λ0≢0

  pub det : m.Λ ⊠ v.Q ⊞ Z ⊠ m.B ⊠ v.P ≡ K (c S r) ⊠ zpow r
  unfolding c
  det = ⊞_lc (λ i. m.Λ ⊠ v.aux i ⊞ Z ⊠ m.B ⊠ v.key i ⊞ zpow r ⊠ v.unit i) (simp zpow-ring)

  -- L is the length of a solution
  pub solution : Solution S r m.Λ v.P (length S r)
  solution = record { σ0≢0 = v.Λ0≢0; below_σ = v.below_Λ; below_ω = v.below_P; agree = key-low }

  -- ---- a second solution

  -- the consequences in the proof plan's section 3; a and b are its a' and b'
  module _ (σ ω : Series) (e : ℕ) (s : Solution S r σ ω e) where
    rest : Series
    rest = drop r (σ ⊠ S ⊞ ω)

    rest-is : σ ⊠ S ⊞ ω ≡ zpow r ⊠ rest
    unfolding rest
    rest-is = zpow_divide r _ (λ i h. simp (⊞-at, s.agree i h, ⊕_self))

    a : Series
    a = m.Λ ⊠ rest ⊞ σ ⊠ v.D

    b : Series
    b = Z ⊠ m.B ⊠ rest ⊞ σ ⊠ v.E

    a_is : σ ⊠ v.P ⊞ ω ⊠ m.Λ ≡ zpow r ⊠ a
    unfolding a
    a_is = ⊞_lc (λ i. σ ⊠ v.key i ⊞ m.Λ ⊠ rest-is i) (simp zpow-ring)

    b_is : σ ⊠ v.Q ⊞ ω ⊠ (Z ⊠ m.B) ≡ zpow r ⊠ b
    unfolding b
    b_is = ⊞_lc (λ i. σ ⊠ v.aux i ⊞ Z ⊠ m.B ⊠ rest-is i) (simp zpow-ring)

    σ-is : K (c S r) ⊠ σ ≡ m.Λ ⊠ b ⊞ Z ⊠ m.B ⊠ a
    unfolding a b c
    σ-is = ⊞_lc (λ i. σ ⊠ v.unit i) (simp zpow-ring)

    below-a : below (e + length S r - r) a
    below-a = below_divide _ r a (rw (← a_is) (below-⊞ _ _ _
        (below-⊠ _ _ _ _ _ s.below_σ v.below_P (omega arith))
        (below-⊠ _ _ _ _ _ s.below_ω v.below_Λ (omega arith))))

    below-b : below (e + (suc r - length S r) - r) b
    below-b = below_divide _ r b (rw (← b_is) (below-⊞ _ _ _
        (below-⊠ _ _ _ _ _ s.below_σ v.below_Q (omega arith))
        (below-⊠ _ _ _ _ _ s.below_ω v.below_B (omega (arith, v.short)))))

    -- the first consequence: the length is least
    pub shortest : length S r ≤ e
    shortest = go (dec_le (length S r) e)
      where
        go : Dec (length S r ≤ e) → length S r ≤ e
        go (yes h) = h
        go (no h) =
            let z : b 0 ≡ 𝟎 = below-b 0 (omega (arith, v.short)) in
            absurd (⊙_nonzero _ _ c≢0 s.σ0≢0 (simp at_zero at (ap (λ f. f 0) σ-is) ∙ simp (z, at_zero)))

    -- the second: if the two lengths are together at most r, the solution is a multiple of Λ and P
    module _ (fits : e + length S r ≤ r) where
      a-none : a ≡ O
      a-none = below_none a (λ i h. below-a i (omega arith))

      σ_multiple : K (c S r) ⊠ σ ≡ m.Λ ⊠ b
      σ_multiple = ⊞_lc (λ i. σ-is i ⊞ Z ⊠ m.B ⊠ a-none i) (simp zpow-ring)

      ω_multiple : K (c S r) ⊠ ω ≡ v.P ⊠ b
      ω_multiple = zpow_cancel r _ _
          (⊞_lc (λ i. v.P ⊠ b_is i ⊞ v.Q ⊠ a_is i ⊞ v.Q ⊠ zpow r ⊠ a-none i ⊞ ω ⊠ det i) (simp zpow-ring))

      pub unique : (b : Series) × below (suc (e - length S r)) b × (K (c S r) ⊠ σ ≡ m.Λ ⊠ b)
          × (K (c S r) ⊠ ω ≡ v.P ⊠ b)
      unique = (b, λ i h. below-b i (omega (arith, v.short, shortest)), σ_multiple, ω_multiple)
