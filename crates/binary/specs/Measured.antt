-- The direct formulas against the measure, the plain iteration over all six syndromes: where S_1 = S_0², S_3 = S_0⁴ and
-- S_5 = S_2², not all zero, its Λ is a multiple of theirs and its length is theirs.
--
--   Like m t        m is t up to factors: one of Λ, and one of B and γ
--   plain_of r s    the state s, after r plain iterations, as one of theirs
--   Follows S r s   the measure of S after r iterations is like s
--
-- Proved: an iteration keeps likeness (like-iterate); where the discrepancy of the second is zero, two plain iterations
-- are one iteration (follows-step); the length is that of the state (follows-length); after six the measure is like the
-- formulas (follows-direct).
use Rattle.std.specs.Prelude.{ℕ, suc, ◌+◌, ◌-◌, ◌≤◌, ◌<◌, ◌≡◌, refl, ◌≢◌, ◌⊎◌, Bool, true, false, not, cond, ◌&&◌, ℤ}
use Rattle.std.proofs.Math.Path.{sym, ap}
use Rattle.std.proofs.Common.{◌∙◌, inl, inr, arith}
use Rattle.std.proofs.Math.Logic.{by_cases}
use Rattle.std.proofs.Math.Decide.{dec_le}
use Rattle.std.specs.Int.Signed.{non_neg}
use Rattle.field.specs.Field.{F, 𝟎, 𝟏, ◌⊕◌, ◌⊙◌, pow, is_zero_yes, is_zero_no, ◌≟◌}
use Rattle.field.specs.Field.{⊙-ring, ⊙-zero, one-⊙, one≢zero, ⊕_lc}
use Rattle.field.proofs.Field.{⊙_nonzero}
use Rattle.series.specs.Series.{Series, K, Z, ◌⊞◌, ◌⊠◌, ⊠-ring, K-⊠-at, ⊠_assoc, ⊞_lc}
use Rattle.key_equation.specs.Shared.{swaps, k_swap, k_hold}
use Rattle.key_equation.specs.Plain as Plain
use Rattle.key_equation.specs.Run.{measure}
use Rattle.key_equation.specs.Ahead.{δ_convolution}
use Rattle.key_equation.specs.Measure.{measure-γ}
use Rattle.key_equation.specs.Shortest.{length, length_is}
use Rattle.key_equation.specs.Length.{k_of, k_of-length, k_of-start, k_of-hold, k_of-swap}
use Rattle.key_equation.specs.Length.{swaps-of_yes, swaps-of-zero, swaps-of-long}
use Rattle.binary.specs.Coefficients.{◌◂◌, K-◂, ◂_at0, powers, ◂-⊠_at0, ◂-⊠-suc, O-⊠-at}
use Rattle.binary.specs.Algorithm.{State, step}
use Rattle.binary.specs.Tables.{Δ1, φ, v000, v001, v010, v011, v101, v110, direct}
use Rattle.binary.specs.Equal as Equal

-- ---- up to factors

pub record Like (m t : Plain.State) : Type 0 where
  pub u : F
  pub v : F
  pub u≢0 : u ≢ 𝟎
  pub v≢0 : v ≢ 𝟎
  pub Λ : m.Λ ≡ K u ⊠ t.Λ
  pub B : m.B ≡ K v ⊠ t.B
  pub γ : m.γ ≡ v ⊙ t.γ
  pub k : m.k ≡ t.k

like_trans : {m t w : Plain.State} → Like m t → Like t w → Like m w
like_trans f g = record {
  u = f.u ⊙ g.u;
  v = f.v ⊙ g.v;
  u≢0 = ⊙_nonzero _ _ f.u≢0 g.u≢0;
  v≢0 = ⊙_nonzero _ _ f.v≢0 g.v≢0;
  Λ = f.Λ ∙ ap (λ (h : Series). K f.u ⊠ h) g.Λ ∙ simp ⊠-ring;
  B = f.B ∙ ap (λ (h : Series). K f.v ⊠ h) g.B ∙ simp ⊠-ring;
  γ = f.γ ∙ ap (λ x. f.v ⊙ x) g.γ ∙ simp ⊙-ring;
  k = f.k ∙ g.k;
}

swaps_multiple : (u d : F) (k : ℤ) → u ≢ 𝟎 → swaps (u ⊙ d) k ≡ swaps d k
unfolding swaps
swaps_multiple u d k h = ap (λ z. not z && non_neg k) (by_cases (d ≟ 𝟎)
    (λ z. rw (z, ⊙-zero))
    (λ n. is_zero_no _ (⊙_nonzero u d h n) ∙ sym (is_zero_no d n)))

module _ (S : Series) (r : ℕ) where
  pub like-iterate : {m t : Plain.State} → Like m t → Like (Plain.iterate r S m) (Plain.iterate r S t)
  unfolding Plain.iterate
  like-iterate {m} {t} f =
      let d : F = Plain.δ r S t in
      let scaled : Plain.δ r S m ≡ f.u ⊙ d =
      δ_convolution r S m ∙ ap (λ (h : Series). (h ⊠ S) r) f.Λ
      ∙ ap (λ (h : Series). h r) (⊠_assoc (K f.u) t.Λ S) ∙ K-⊠-at f.u _ r
      ∙ ap (λ x. f.u ⊙ x) (sym (δ_convolution r S t)) in
      let same : Plain.swapping r S m ≡ swaps d t.k =
      rw (scaled, f.k) (swaps_multiple f.u d t.k f.u≢0) in
      rw (same, scaled) (go d (swaps d t.k))
    where
      updated : (d : F) → Plain.update (f.u ⊙ d) m ≡ K (f.u ⊙ f.v) ⊠ Plain.update d t
      updated d = ⊞_lc (λ i. K (f.γ i) ⊠ f.Λ i ⊞ K (f.u ⊙ d) ⊠ (Z ⊠ f.B i)) (simp ⊠-ring)

      go : (d : F) (b : Bool)
          → Like (cond b (Plain.swap (f.u ⊙ d) m) (Plain.hold (f.u ⊙ d) m)) (cond b (Plain.swap d t) (Plain.hold d t))
      go d true = record {
        u = f.u ⊙ f.v;
        v = f.u;
        u≢0 = ⊙_nonzero _ _ f.u≢0 f.v≢0;
        v≢0 = f.u≢0;
        Λ = updated d;
        B = f.Λ;
        γ = refl;
        k = ap k_swap f.k;
      }
      go d false = record {
        u = f.u ⊙ f.v;
        v = f.v;
        u≢0 = ⊙_nonzero _ _ f.u≢0 f.v≢0;
        v≢0 = f.v≢0;
        Λ = updated d;
        B = ⊞_lc (λ i. Z ⊠ f.B i) (simp ⊠-ring);
        γ = f.γ;
        k = ap k_hold f.k;
      }

-- ---- one iteration is two plain ones

abbrev pub plain_of : ℕ → State → Plain.State
plain_of r s = record { Λ = s.Λ; B = s.zB; γ = s.γ; k = k_of r s.LΛ }

abbrev pub Follows : Series → ℕ → State → Type 0
Follows S r s = Like (measure S r) (plain_of r s)

module _ (S : Series) (r : ℕ) where
  -- an iteration of discrepancy zero multiplies Λ by γ
  like-rest : (n : Plain.State) (k : ℤ) → (n.Λ ⊠ S) r ≡ 𝟎 → n.γ ≢ 𝟎 → k_hold n.k ≡ k
      → Like (Plain.iterate r S n) (record { Λ = n.Λ; B = Z ⊠ n.B; γ = n.γ; k = k })
  unfolding Plain.iterate swaps
  like-rest n k z h e = rw (δ_convolution r S n, z, is_zero_yes 𝟎 refl) (record {
    u = n.γ;
    v = 𝟏;
    u≢0 = h;
    v≢0 = one≢zero;
    Λ = simp ⊠-ring;
    B = simp ⊠-ring;
    γ = sym (one-⊙ _);
    k = e;
  })

module _ (S : Series) (r : ℕ) (s : State) (lengths : s.LΛ + s.LB+1 ≡ r) (even : (s.Λ ⊠ S) r ≡ s.Δ 0) where
  iterated_by : (b : Bool) → swaps (s.Δ 0) (k_of r s.LΛ) ≡ b
      → Plain.iterate r S (plain_of r s)
      ≡ cond b (Plain.swap (s.Δ 0) (plain_of r s)) (Plain.hold (s.Δ 0) (plain_of r s))
  unfolding Plain.iterate
  iterated_by b e = rw (δ_convolution r S (plain_of r s), even, e)

  abbrev TwoAreOne : Type 0
  TwoAreOne =
      ((step s).Λ ⊠ S) (suc r) ≡ 𝟎
      → Like (Plain.iterate (suc r) S (Plain.iterate r S (plain_of r s))) (plain_of (suc (suc r)) (step s))

  like-step : s.γ ≢ 𝟎 → TwoAreOne
  like-step n = go (s.Δ 0 ≟ 𝟎) (dec_le s.LΛ s.LB+1)
    where
      held : (s.Δ 0 ≡ 𝟎) ⊎ (s.LB+1 < s.LΛ) → swaps (s.Δ 0) (k_of r s.LΛ) ≡ false → TwoAreOne
      held h e =
          rw (Equal.takes-B s refl refl h refl refl refl, iterated_by false e)
          (λ z. like-rest S (suc r) _ _ z n (ap k_hold (k_of-hold r _) ∙ k_of-hold (suc r) _))

      go : Dec (s.Δ 0 ≡ 𝟎) → Dec (s.LΛ ≤ s.LB+1) → TwoAreOne
      go (yes z) _ = held (inl z) (swaps-of-zero _ r _ z)
      go (no h) (no l) = held (inr (omega arith)) (swaps-of-long _ r _ (omega arith))
      go (no h) (yes l) =
          let longer : suc r - s.LΛ ≡ s.LB+1 + 1 = omega arith in
          rw (
            Equal.takes-A s refl refl h l refl refl refl refl,
            iterated_by true (swaps-of_yes _ r _ h (omega arith)),
          )
          (λ z. like-rest S (suc r) _ _ z h
          (ap k_hold (k_of-swap r _ (omega arith)) ∙ k_of-hold (suc r) _ ∙ ap (k_of (suc (suc r))) longer))

  pub follows-step : {t : State} → step s ≡ t → (t.Λ ⊠ S) (suc r) ≡ 𝟎 → Follows S r s → Follows S (suc (suc r)) t
  unfolding measure
  follows-step e odd f =
      let n : s.γ ≢ 𝟎 = λ z. measure-γ S r (f.γ ∙ rw (z, ⊙-zero)) in
      let here : Follows S (suc (suc r)) (step s) =
      like_trans (like-iterate S (suc r) (like-iterate S r f)) (like-step n (rw e odd)) in
      rw e at here

pub follows-length : (S : Series) (r : ℕ) (s : State) → Follows S r s → s.LΛ ≡ length S r
follows-length S r s f = k_of-length r _ _ _ (sym f.k) (length_is S r)

-- ---- three of them

at_1 : (a : F) (f S : Series) → ((a ◂ f) ⊠ S) 1 ≡ a ⊙ S 1 ⊕ (f ⊠ S) 0
at_1 a f S = ◂-⊠-suc a f S 0

at_2 : (a : F) (f S : Series) → ((a ◂ f) ⊠ S) 2 ≡ a ⊙ S 2 ⊕ (f ⊠ S) 1
at_2 a f S = ◂-⊠-suc a f S 1

at_3 : (a : F) (f S : Series) → ((a ◂ f) ⊠ S) 3 ≡ a ⊙ S 3 ⊕ (f ⊠ S) 2
at_3 a f S = ◂-⊠-suc a f S 2

at_4 : (a : F) (f S : Series) → ((a ◂ f) ⊠ S) 4 ≡ a ⊙ S 4 ⊕ (f ⊠ S) 3
at_4 a f S = ◂-⊠-suc a f S 3

at_5 : (a : F) (f S : Series) → ((a ◂ f) ⊠ S) 5 ≡ a ⊙ S 5 ⊕ (f ⊠ S) 4
at_5 a f S = ◂-⊠-suc a f S 4

ruleset coefficients = (⊙-ring, powers, ◂_at0, ◂-⊠_at0, at_1, at_2, at_3, at_4, at_5, O-⊠-at)

module _ (S : Series) (h1 : S 1 ≡ pow (S 0) 2) (h3 : S 3 ≡ pow (S 0) 4) (h5 : S 5 ≡ pow (S 2) 2) where
  in-first : Follows S 0 (Equal.first (S 0) (S 2) (S 4))
  unfolding measure
  in-first = record {
    u = 𝟏;
    v = 𝟏;
    u≢0 = one≢zero;
    v≢0 = one≢zero;
    Λ = K-◂ 𝟏 ∙ simp ⊠-ring;
    B = K-◂ 𝟏 ∙ simp ⊠-ring;
    γ = sym (one-⊙ 𝟏);
    k = sym k_of-start;
  }

  -- each: the lengths, the discrepancy, the iteration, and the discrepancy of the second plain one
  in-A : S 0 ≢ 𝟎 → Follows S 2 (Equal.A (S 0) (S 2) (S 4))
  in-A x =
      follows-step S 0 _ refl (simp coefficients) (Equal.to-A (S 0) (S 2) (S 4) x)
      (simp (coefficients, h1)) in-first

  in-AA : S 0 ≢ 𝟎 → Δ1 (S 0) (S 2) ≢ 𝟎 → Follows S 4 (Equal.AA (S 0) (S 2) (S 4))
  in-AA x y =
      follows-step S 2 _ refl (simp (coefficients, h1)) (Equal.to-AA (S 0) (S 2) (S 4) y)
      (simp (coefficients, h1, h3)) (in-A x)

  in-v000 : S 0 ≢ 𝟎 → Δ1 (S 0) (S 2) ≢ 𝟎 → φ (S 0) (S 2) (S 4) ≢ 𝟎 → Follows S 6 (v000 (S 0) (S 2) (S 4))
  in-v000 x y z =
      follows-step S 4 _ refl (simp (coefficients, h3)) (Equal.to-v000 (S 0) (S 2) (S 4) z)
      (simp (coefficients, h3, h5)) (in-AA x y)

  in-v001 : S 0 ≢ 𝟎 → Δ1 (S 0) (S 2) ≢ 𝟎 → φ (S 0) (S 2) (S 4) ≡ 𝟎 → Follows S 6 (v001 (S 0) (S 2) (S 4))
  in-v001 x y z =
      follows-step S 4 _ refl (simp (coefficients, h3)) (Equal.to-v001 (S 0) (S 2) (S 4) z)
      (⊕_lc (λ i. z i ⊙ (pow (S 0) 4 ⊕ S 0 ⊙ S 2)) (simp (coefficients, h3, h5))) (in-AA x y)

  in-AB : S 0 ≢ 𝟎 → Δ1 (S 0) (S 2) ≡ 𝟎 → Follows S 4 (Equal.AB (S 0) (S 2) (S 4))
  in-AB x y =
      follows-step S 2 _ refl (simp (coefficients, h1)) (Equal.to-AB (S 0) (S 2) (S 4) y)
      (⊕_lc (λ i. pow (S 0) 2 ⊙ y i) (simp (coefficients, h3))) (in-A x)

  in-v010 : S 0 ≢ 𝟎 → Δ1 (S 0) (S 2) ≡ 𝟎 → S 0 ⊙ S 4 ⊕ pow (S 0) 6 ≢ 𝟎 → Follows S 6 (v010 (S 0) (S 2) (S 4))
  in-v010 x y z =
      follows-step S 4 _ refl (simp (coefficients, h3)) (Equal.to-v010 (S 0) (S 2) (S 4) z)
      (⊕_lc (λ i. pow (S 0) 2 ⊙ pow (y i) 2) (simp (coefficients, h1, h3, h5))) (in-AB x y)

  in-v011 : S 0 ≢ 𝟎 → Δ1 (S 0) (S 2) ≡ 𝟎 → S 0 ⊙ S 4 ⊕ pow (S 0) 6 ≡ 𝟎 → Follows S 6 (v011 (S 0) (S 2) (S 4))
  in-v011 x y z =
      follows-step S 4 _ refl (simp (coefficients, h3)) (Equal.to-v011 (S 0) (S 2) (S 4) z)
      (⊕_lc (λ i. pow (S 0) 2 ⊙ (z i ⊕ pow (y i) 2)) (simp (coefficients, h5))) (in-AB x y)

  in-B : S 0 ≡ 𝟎 → Follows S 2 (Equal.B (S 0) (S 2) (S 4))
  in-B x =
      follows-step S 0 _ refl (simp coefficients) (Equal.to-B (S 0) (S 2) (S 4) x)
      (simp (coefficients, h1, x)) in-first

  in-BA : S 0 ≡ 𝟎 → S 2 ≢ 𝟎 → Follows S 4 (Equal.BA (S 0) (S 2) (S 4))
  in-BA x y =
      follows-step S 2 _ refl (simp coefficients) (Equal.to-BA (S 0) (S 2) (S 4) x y)
      (simp (coefficients, h3, x)) (in-B x)

  in-v101 : S 0 ≡ 𝟎 → S 2 ≢ 𝟎 → Follows S 6 (v101 (S 0) (S 2) (S 4))
  in-v101 x y =
      follows-step S 4 _ refl (simp (coefficients, h1, x)) (Equal.to-v101 (S 0) (S 2) (S 4))
      (simp (coefficients, h3, h5, x)) (in-BA x y)

  in-BB : S 0 ≡ 𝟎 → S 2 ≡ 𝟎 → Follows S 4 (Equal.BB (S 0) (S 2) (S 4))
  in-BB x y =
      follows-step S 2 _ refl (simp coefficients) (Equal.to-BB (S 0) (S 2) (S 4) y)
      (simp (coefficients, h3, x)) (in-B x)

  in-v110 : S 0 ≡ 𝟎 → S 2 ≡ 𝟎 → S 4 ≢ 𝟎 → Follows S 6 (v110 (S 0) (S 2) (S 4))
  in-v110 x y z =
      follows-step S 4 _ refl (simp coefficients) (Equal.to-v110 (S 0) (S 2) (S 4) x y z)
      (simp (coefficients, h5, x, y)) (in-BB x y)

  pub follows-direct : ¬ ((S 0 ≡ 𝟎) × (S 2 ≡ 𝟎) × (S 4 ≡ 𝟎)) → Follows S 6 (direct (S 0) (S 2) (S 4))
  follows-direct h =
      Equal.by-branch (S 0) (S 2) (S 4) (Follows S 6) in-v000 in-v001 in-v010 in-v011 in-v101
      (λ x y. in-v110 x y (λ z. h (x, y, z)))
