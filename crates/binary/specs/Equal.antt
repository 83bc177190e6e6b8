-- The direct formulas are what three iterations leave, for all syndromes that are not all zero (FORMAT 11.7).
--
--   of            a state by its parts, in their order
--   first         the state before the first iteration
--   A, AA, AB     the states after these branches, where S_0 is not zero; with Δ1 zero for AB
--   B, BA, BB     the same, where S_0 is zero; with S_2 zero too for BB
--
-- Proved: an iteration in branch A and in branch B (takes-A, takes-B); the twelve iterations that occur (to-A to
-- to-v110); what holds of each branch's formulas where they are chosen holds of those that the syndromes choose
-- (by-branch); the formulas equal three iterations (equal).
use Rattle.std.specs.Prelude.{ℕ, ◌+◌, ◌≤◌, ◌<◌, ◌≡◌, refl, ◌≢◌, ◌⊎◌}
use Rattle.std.proofs.Common.{sym, ◌∙◌, inl, inr, arith}
use Rattle.std.proofs.Math.Logic.{⊎_elim}
use Rattle.std.proofs.Math.Bool.{and-false}
use borrow.Author.Tests.{le-leb, lt-leb}
use Rattle.field.specs.Field.{F, 𝟎, 𝟏, ◌⊕◌, ◌⊙◌, pow, is_zero_yes, is_zero_no, ◌≟◌, ⊕_lc}
use Rattle.series.specs.Series.{Series, O, K, Z, ◌⊞◌, ◌⊠◌, tail}
use Rattle.binary.specs.Coefficients.{◌◂◌, computing, powers, ◂_at0}
use Rattle.binary.specs.Algorithm.{State, start, branchB, step, iterated}
use Rattle.binary.specs.Tables.{Δ1, φ, branch, v000, v001, v010, v011, v101, v110, formulas, direct}

abbrev pub of : (Λ zB Δ Θ : Series) (γ : F) (LΛ LB+1 : ℕ) → State
of Λ zB Δ Θ γ LΛ LB+1 = record { Λ = Λ; zB = zB; Δ = Δ; Θ = Θ; γ = γ; LΛ = LΛ; LB+1 = LB+1 }

-- ---- one iteration: the discrepancy, what decides for the branch, and the new parts

module _ (s : State) {d γ : F} {Λ zB Δ Θ Λ' zB' Δ' : Series} {l b : ℕ}
    (is : s ≡ of Λ zB Δ Θ γ l b) (at : Δ 0 ≡ d) where
  pub takes-A : {Θ' : Series} → d ≢ 𝟎 → l ≤ b
      → K γ ⊠ Λ ⊞ K d ⊠ (Z ⊠ zB) ≡ Λ' → Z ⊠ Λ ≡ zB' → K γ ⊠ tail (tail Δ) ⊞ K d ⊠ Θ ≡ Δ' → tail (tail Δ) ≡ Θ'
      → step s ≡ of Λ' zB' Δ' Θ' d (b + 1) (l + 1)
  unfolding step
  takes-A h m e f g k = rw (is, at, is_zero_no d h, le-leb l b m) (λ i. of (e i) (f i) (g i) (k i) d (b + 1) (l + 1))

  pub takes-B : (d ≡ 𝟎) ⊎ (b < l)
      → K γ ⊠ Λ ⊞ K d ⊠ (Z ⊠ zB) ≡ Λ' → Z ⊠ (Z ⊠ zB) ≡ zB' → K γ ⊠ tail (tail Δ) ⊞ K d ⊠ Θ ≡ Δ'
      → step s ≡ of Λ' zB' Δ' Θ γ l (b + 2)
  unfolding step
  takes-B h e f g =
      let moved : step s ≡ branchB d (of Λ zB Δ Θ γ l b) =
      ⊎_elim (λ z. rw (is, at, is_zero_yes d z)) (λ m. rw (is, at, lt-leb l b m, and-false)) h in
      moved ∙ (λ i. of (e i) (f i) (g i) Θ γ l (b + 2))

ruleset all = (computing, powers)

module _ (S0 S2 S4 : F) where
  -- ---- the states on the way

  abbrev pub first : State
  first = start S0 (pow S0 2) S2 (pow S0 4) S4 (pow S2 2)

  abbrev pub A : State
  A = of (𝟏 ◂ S0 ◂ O) (𝟎 ◂ 𝟏 ◂ O) (Δ1 S0 S2 ◂ 𝟎 ◂ (S4 ⊕ pow S0 5) ◂ 𝟎 ◂ (S0 ⊙ pow S2 2) ◂ O) (S2 ◂ 𝟎 ◂ S4 ◂ O) S0 1 1

  abbrev pub AA : State
  AA =
      of (S0 ◂ pow S0 2 ◂ Δ1 S0 S2 ◂ O) (𝟎 ◂ 𝟏 ◂ S0 ◂ O)
      (φ S0 S2 S4 ◂ 𝟎 ◂ (pow S0 2 ⊙ pow S2 2 ⊕ S4 ⊙ Δ1 S0 S2) ◂ O) ((S4 ⊕ pow S0 5) ◂ 𝟎 ◂ (S0 ⊙ pow S2 2) ◂ O)
      (Δ1 S0 S2) 2 2

  abbrev pub AB : State
  AB =
      of (S0 ◂ pow S0 2 ◂ O) (𝟎 ◂ 𝟎 ◂ 𝟎 ◂ 𝟏 ◂ O) ((S0 ⊙ S4 ⊕ pow S0 6) ◂ 𝟎 ◂ (pow S0 2 ⊙ pow S2 2) ◂ O)
      (S2 ◂ 𝟎 ◂ S4 ◂ O) S0 1 3

  abbrev pub B : State
  B = of (𝟏 ◂ O) (𝟎 ◂ 𝟎 ◂ 𝟏 ◂ O) (S2 ◂ 𝟎 ◂ S4 ◂ O) (pow S0 2 ◂ 𝟎 ◂ pow S0 4 ◂ 𝟎 ◂ pow S2 2 ◂ O) 𝟏 0 2

  abbrev pub BA : State
  BA = of (𝟏 ◂ 𝟎 ◂ 𝟎 ◂ S2 ◂ O) (𝟎 ◂ 𝟏 ◂ O) (S4 ◂ 𝟎 ◂ 𝟎 ◂ 𝟎 ◂ pow S2 3 ◂ O) (S4 ◂ O) S2 3 1

  abbrev pub BB : State
  BB = of (𝟏 ◂ O) (𝟎 ◂ 𝟎 ◂ 𝟎 ◂ 𝟎 ◂ 𝟏 ◂ O) (S4 ◂ O) (pow S0 2 ◂ 𝟎 ◂ pow S0 4 ◂ 𝟎 ◂ pow S2 2 ◂ O) 𝟏 0 4

  -- ---- the iterations that occur

  pub to-A : S0 ≢ 𝟎 → step first ≡ A
  to-A h = takes-A first refl (◂_at0 _ _) h (omega arith) (simp all) (simp all) (simp all) (simp all)

  pub to-AA : Δ1 S0 S2 ≢ 𝟎 → step A ≡ AA
  to-AA h = takes-A A refl (◂_at0 _ _) h (omega arith) (simp all) (simp all) (simp all) (simp all)

  pub to-v000 : φ S0 S2 S4 ≢ 𝟎 → step AA ≡ v000 S0 S2 S4
  to-v000 h = takes-A AA refl (◂_at0 _ _) h (omega arith) (simp all) (simp all) (simp all) (simp all)

  pub to-v001 : φ S0 S2 S4 ≡ 𝟎 → step AA ≡ v001 S0 S2 S4
  to-v001 z = takes-B AA refl (◂_at0 _ _ ∙ z) (inl refl) (simp all) (simp all) (simp all)

  pub to-AB : Δ1 S0 S2 ≡ 𝟎 → step A ≡ AB
  to-AB z = takes-B A refl (◂_at0 _ _ ∙ z) (inl refl) (simp all) (simp all) (simp all)

  pub to-v010 : S0 ⊙ S4 ⊕ pow S0 6 ≢ 𝟎 → step AB ≡ v010 S0 S2 S4
  to-v010 h = takes-A AB refl (◂_at0 _ _) h (omega arith) (simp all) (simp all) (simp all) (simp all)

  pub to-v011 : S0 ⊙ S4 ⊕ pow S0 6 ≡ 𝟎 → step AB ≡ v011 S0 S2 S4
  to-v011 z = takes-B AB refl (◂_at0 _ _ ∙ z) (inl refl) (simp all) (simp all) (simp all)

  pub to-B : S0 ≡ 𝟎 → step first ≡ B
  to-B z = takes-B first refl (◂_at0 _ _ ∙ z) (inl refl) (simp all) (simp all) (simp all)

  pub to-BA : S0 ≡ 𝟎 → S2 ≢ 𝟎 → step B ≡ BA
  to-BA z h = takes-A B refl (◂_at0 _ _) h (omega arith) (simp all) (simp all) (simp (all, z)) (simp all)

  pub to-v101 : step BA ≡ v101 S0 S2 S4
  to-v101 = takes-B BA refl (◂_at0 _ _) (inr (omega arith)) (simp all) (simp all) (simp all)

  pub to-BB : S2 ≡ 𝟎 → step B ≡ BB
  to-BB y = takes-B B refl (◂_at0 _ _ ∙ y) (inl refl) (simp all) (simp all) (simp all)

  pub to-v110 : S0 ≡ 𝟎 → S2 ≡ 𝟎 → S4 ≢ 𝟎 → step BB ≡ v110 S0 S2 S4
  to-v110 z y h = takes-A BB refl (◂_at0 _ _) h (omega arith) (simp all) (simp all) (simp (all, z, y)) (simp all)

  -- ---- the branch that the syndromes choose

  -- with Δ1 zero, φ is the discrepancy after A and B
  φ-less : Δ1 S0 S2 ≡ 𝟎 → S0 ⊙ S4 ⊕ pow S0 6 ≡ φ S0 S2 S4
  φ-less z = ⊕_lc (λ i. S2 ⊙ z i) (simp all)

  -- with S_0 zero, S_2 is the discrepancy after B
  pub Δ1-less : S0 ≡ 𝟎 → S2 ≡ Δ1 S0 S2
  Δ1-less z = rw z (simp all)

  pub by-branch : (P : State → Type 0)
      → (S0 ≢ 𝟎 → Δ1 S0 S2 ≢ 𝟎 → φ S0 S2 S4 ≢ 𝟎 → P (v000 S0 S2 S4))
      → (S0 ≢ 𝟎 → Δ1 S0 S2 ≢ 𝟎 → φ S0 S2 S4 ≡ 𝟎 → P (v001 S0 S2 S4))
      → (S0 ≢ 𝟎 → Δ1 S0 S2 ≡ 𝟎 → S0 ⊙ S4 ⊕ pow S0 6 ≢ 𝟎 → P (v010 S0 S2 S4))
      → (S0 ≢ 𝟎 → Δ1 S0 S2 ≡ 𝟎 → S0 ⊙ S4 ⊕ pow S0 6 ≡ 𝟎 → P (v011 S0 S2 S4))
      → (S0 ≡ 𝟎 → S2 ≢ 𝟎 → P (v101 S0 S2 S4))
      → (S0 ≡ 𝟎 → S2 ≡ 𝟎 → P (v110 S0 S2 S4))
      → P (direct S0 S2 S4)
  unfolding branch formulas
  by-branch P p000 p001 p010 p011 p101 p110 = go (S0 ≟ 𝟎) (Δ1 S0 S2 ≟ 𝟎) (φ S0 S2 S4 ≟ 𝟎)
    where
      go : Dec (S0 ≡ 𝟎) → Dec (Δ1 S0 S2 ≡ 𝟎) → Dec (φ S0 S2 S4 ≡ 𝟎) → P (direct S0 S2 S4)
      go (no x) (no y) (no z) = rw (is_zero_no _ x, is_zero_no _ y, is_zero_no _ z) (p000 x y z)
      go (no x) (no y) (yes z) = rw (is_zero_no _ x, is_zero_no _ y, is_zero_yes _ z) (p001 x y z)
      go (no x) (yes y) (no z) =
          rw (is_zero_no _ x, is_zero_yes _ y, is_zero_no _ z) (p010 x y (λ e. z (sym (φ-less y) ∙ e)))
      go (no x) (yes y) (yes z) = rw (is_zero_no _ x, is_zero_yes _ y, is_zero_yes _ z) (p011 x y (φ-less y ∙ z))
      go (yes x) (no y) _ = rw (is_zero_yes _ x, is_zero_no _ y) (p101 x (λ e. y (sym (Δ1-less x) ∙ e)))
      go (yes x) (yes y) _ = rw (is_zero_yes _ x, is_zero_yes _ y) (p110 x (Δ1-less x ∙ y))

  pub equal : ¬ ((S0 ≡ 𝟎) × (S2 ≡ 𝟎) × (S4 ≡ 𝟎)) → iterated S0 S2 S4 ≡ direct S0 S2 S4
  equal h =
      by-branch (λ s. iterated S0 S2 S4 ≡ s)
      (λ x y z. rw (to-A x, to-AA y) (to-v000 z))
      (λ x y z. rw (to-A x, to-AA y) (to-v001 z))
      (λ x y z. rw (to-A x, to-AB y) (to-v010 z))
      (λ x y z. rw (to-A x, to-AB y) (to-v011 z))
      (λ x y. rw (to-B x, to-BA x y) to-v101)
      (λ x y. rw (to-B x, to-BB y) (to-v110 x y (λ z. h (x, y, z))))
