-- A state of the code as one of the definitions, and what the formulas share.
--
--   state_of s       the state that a `Solved` stands for
--   Shared a b c t   the values in t are those of the syndromes S_0 = a, S_2 = b, S_4 = c
--   literal          `simp literal` reads arrays that are written out as polynomials
--
-- Proved: the formulas of the number k are the ones to take where k is the branch number (arm_solves); those of a
-- number that is none of 0, 1, 2, 3 and 5 are those of branch 110 (formulas-other).
use Rattle.std.specs.Prelude.{ℕ, ◌≡◌}
use Rattle.std.proofs.Common.{sym, ap, ◌∙◌, ne_eqb}
use Rattle.field.specs.Field.{F, 𝟎, ◌⊙◌, pow, val, val-zero, val-one}
use Rattle.series.specs.Array.{values}
use Rattle.binary.specs.declared.direct.Solved.{Solved}
use Rattle.binary.specs.declared.direct.Terms.{Terms}
use Rattle.binary.specs.Coefficients.{values-∷, values-none, ◂-O}
use Rattle.binary.specs.Algorithm.{State, iterated}
use Rattle.binary.specs.Tables.{Δ1, φ, branch, formulas, v110, direct}
use Rattle.binary.specs.Equal.{equal}

abbrev pub state_of : Solved → State
state_of s = record {
  Λ = values s.locator;
  zB = values s.auxiliary;
  Δ = values s.delta;
  Θ = values s.theta;
  γ = val s.gamma;
  LΛ = s.length;
  LB+1 = s.auxiliary_length;
}

pub record Shared (a b c : F) (t : Terms) : Type 0 where
  pub s0 : val t.s0 ≡ a
  pub s2 : val t.s2 ≡ b
  pub s4 : val t.s4 ≡ c
  pub square : val t.square ≡ pow a 2
  pub cube : val t.cube ≡ pow a 3
  pub sixth : val t.sixth ≡ pow a 6
  pub square2 : val t.square2 ≡ pow b 2
  pub d1 : val t.d1 ≡ Δ1 a b
  pub both : val t.both ≡ a ⊙ c
  pub phi : val t.phi ≡ φ a b c

pub ruleset literal = (values-∷, values-none, val-zero, val-one, ◂-O)

pub arm_solves : {a b c : F} {t : Terms} {n k : ℕ} {s : State} → Shared a b c t
    → ((a b c : F) → Shared a b c t → n ≡ branch a b c) → n ≡ k
    → ((a b c : F) → Shared a b c t → s ≡ formulas k a b c)
    → (s ≡ direct a b c) × (¬ ((a ≡ 𝟎) × (b ≡ 𝟎) × (c ≡ 𝟎)) → s ≡ iterated a b c)
arm_solves {a} {b} {c} h number is found =
    let e = found a b c h ∙ ap (λ (m : ℕ). formulas m a b c) (sym is ∙ number a b c h) in
    (e, λ some. e ∙ sym (equal a b c some))

pub formulas-other : (n : ℕ) (a b c : F) → ¬ (n ≡ 0) → ¬ (n ≡ 1) → ¬ (n ≡ 2) → ¬ (n ≡ 3) → ¬ (n ≡ 5)
    → v110 a b c ≡ formulas n a b c
unfolding formulas
formulas-other n a b c h i j k l =
    rw (ne_eqb n 0 h, ne_eqb n 1 i, ne_eqb n 2 j, ne_eqb n 3 k, ne_eqb n 5 l)
