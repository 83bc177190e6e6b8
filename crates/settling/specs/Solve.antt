-- What the key-equation solver finds where a pattern explains the syndromes: its locator and its evaluator. The first
-- root is α.
--
--   Found S r n e   after r iterations over S, with Λ_0 the constant term of Λ, which is not zero: Λ is Λ_0 times the
--                   locator of the pattern e, its numerator P is Λ_0 times the evaluator of e, and the length is the
--                   number of changes
--
-- Proved: e is found if its syndromes below r are those of S and it has at most r/2 changes (found); so a pattern that
-- explains S is found after 2t iterations (explained).
use Rattle.std.specs.Prelude.{ℕ, suc, ◌+◌, ◌-◌, ◌*◌, ◌≤◌, ◌<◌, ◌≡◌, ◌≢◌}
use Rattle.std.proofs.Common.{sym, ◌∙◌, arith}
use Rattle.std.proofs.Math.Path.{ap, fun_ext}
use Rattle.field.specs.Field.{F, 𝟎, ◌⊙◌, ⊙_comm, ⊙-zero, zero-⊙, one≢zero}
use Rattle.field.proofs.Field.{⊙_cancel, ⊙-factor}
use Rattle.series.specs.Series.{Series, K, ◌⊞◌, ◌⊠◌, ⊠-ring, ⊞_lc, at_zero, K-⊠-at, ⊠-agree}
use Rattle.series.specs.Degree.{below, below_weaken, below_one}
use Rattle.series.specs.Value.{value, value-K-⊠, value-⊠}
use Rattle.series.specs.Word.{weight}
use Rattle.code.specs.Word.{syndrome}
use Rattle.key_equation.specs.Plain as Plain
use Rattle.key_equation.specs.Run.{measure}
use Rattle.key_equation.specs.Shortest.{Invariant, invariant, length, c, c≢0, Solution, shortest, unique}
use Rattle.settling.specs.Definition.{Explains}
use Rattle.settling.specs.Locator.{W, locator, evaluator, key, locator_at0, below-locator, below-evaluator}
use Rattle.settling.specs.Locator.{Vanishes, locator-root, evaluator_nonzero, few-roots}

pub record Found (S : Series) (r n : ℕ) (e : Series) : Type 0 where
  pub locator_is : (measure S r).Λ ≡ K ((measure S r).Λ 0) ⊠ locator n e
  pub evaluator_is : (invariant S r).P ≡ K ((measure S r).Λ 0) ⊠ evaluator n e
  pub length_is : length S r ≡ weight n e

K_cancel : (a : F) (f g : Series) → a ≢ 𝟎 → K a ⊠ f ≡ K a ⊠ g → f ≡ g
K_cancel a f g h e = fun_ext (λ i. ⊙_cancel a h (sym (K-⊠-at a f i) ∙ ap (λ t. t i) e ∙ K-⊠-at a g i))

module _ (n r : ℕ) (S e : Series) (hn : n ≤ 255) (few : 2 * weight n e ≤ r)
    (agrees : (j : ℕ) → j < r → syndrome 1 n e j ≡ S j) where
  abbrev m : Plain.State
  m = measure S r

  abbrev v : Invariant S r m
  v = invariant S r

  abbrev L : ℕ
  L = length S r

  solves : Solution S r (locator n e) (evaluator n e) (weight n e)
  solves = record {
    σ0≢0 = rw locator_at0 one≢zero;
    below_σ = below-locator e n;
    below_ω = below-evaluator e n;
    agree =
        λ i l. ⊠-agree (locator n e) S (syndrome 1 n e) i (λ j h. sym (agrees j (omega arith)))
        ∙ ap (λ f. f i) (key e n);
  }

  least : L ≤ weight n e
  least = shortest S r _ _ _ solves

  multiple : (b : Series) × below (suc (weight n e - L)) b × (K (c S r) ⊠ locator n e ≡ m.Λ ⊠ b)
      × (K (c S r) ⊠ evaluator n e ≡ v.P ⊠ b)
  multiple = unique S r _ _ _ solves (omega (arith, least))

  -- Λ times the evaluator is P times the locator
  crossed : K (c S r) ⊠ (evaluator n e ⊠ m.Λ) ≡ K (c S r) ⊠ (locator n e ⊠ v.P)
  crossed = let (b, h, p, q) = multiple in ⊞_lc (λ i. v.P ⊠ p i ⊞ m.Λ ⊠ q i) (simp ⊠-ring)

  -- so Λ vanishes where the locator does: the evaluator does not
  vanishes : Vanishes e n L m.Λ
  vanishes p l z =
      let nonzero : value (suc (weight n e)) (evaluator n e) (W p) ≢ 𝟎 =
      evaluator_nonzero e p _ (omega arith) n hn l z (omega arith) in
      let root : value (suc (weight n e)) (locator n e) (W p) ≡ 𝟎 =
      locator-root e p _ (omega arith) n l z (omega arith) in
      ⊙-factor _ _ nonzero (⊙-factor _ _ (c≢0 S r)
      (ap (λ t. c S r ⊙ t) (sym (value-⊠ _ _ k _ _ (W p) (below_weaken _ _ _ (below-evaluator e n) (omega arith))
      v.below_Λ (omega arith)))
      ∙ sym (value-K-⊠ k (c S r) _ (W p))
      ∙ ap (λ t. value k t (W p)) crossed
      ∙ value-K-⊠ k (c S r) _ (W p)
      ∙ ap (λ t. c S r ⊙ t)
      (value-⊠ _ _ k _ _ (W p) (below-locator e n) v.below_P (omega arith) ∙ rw root (zero-⊙ _))
      ∙ ⊙-zero _))
    where
      k : ℕ
      k = suc (weight n e + L)

  whole : L ≡ weight n e
  whole = omega (arith, least, few-roots e n L m.Λ hn v.below_Λ v.Λ0≢0 vanishes)

  -- what was left free is a constant
  factor-is : multiple.0 ≡ K m.γ
  unfolding c
  factor-is =
      let (b, h, p, q) = multiple in
      below_one b (λ i l. h i (omega (arith, whole)))
      ∙ ap K (⊙_cancel (m.Λ 0) v.Λ0≢0 (sym (simp (at_zero, locator_at0) at (ap (λ f. f 0) p)) ∙ ⊙_comm _ _))

  pub found : Found S r n e
  unfolding c
  found =
      let (b, h, p, q) = multiple in
      record {
        locator_is = K_cancel m.γ _ _ v.γ≢0 (⊞_lc (λ i. p i ⊞ m.Λ ⊠ factor-is i) (simp ⊠-ring));
        evaluator_is = K_cancel m.γ _ _ v.γ≢0 (⊞_lc (λ i. q i ⊞ v.P ⊠ factor-is i) (simp ⊠-ring));
        length_is = whole;
      }

pub explained : (t n : ℕ) (s e : Series) → n ≤ 255 → Explains 1 t n s e → Found s (2 * t) n e
explained t n s e hn x = found n (2 * t) s e hn (omega (arith, x.within)) x.syndromes
