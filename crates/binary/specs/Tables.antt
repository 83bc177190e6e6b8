-- The direct formulas: what three iterations leave, by the branches that they take (FORMAT 11.7 and 11.8). The papers'
-- Tables II and III, and the lengths of their Table I. Three entries of Δ in the printed Table II are not what the
-- iteration gives, and the iteration decides (DECISIONS 72): they are marked here.
--
--   Δ1, φ           S_2 + S_0³ and S_0 S_4 + S_0⁶ + S_2 S_0³ + S_2²
--   branch          the branch vector as a number of three bits, the first iteration's first; 0 for branch A, 1 for B
--   v000 .. v110    the formulas of a branch vector
--   formulas b      those of the vector with the number b
--   direct          those of the vector that the syndromes choose
use Rattle.std.specs.Prelude.{ℕ, cond, eqb}
use Rattle.field.specs.Field.{F, 𝟎, 𝟏, ◌⊕◌, ◌⊙◌, pow, is_zero}
use Rattle.series.specs.Series.{O}
use Rattle.binary.specs.Coefficients.{◌◂◌}
use Rattle.binary.specs.Algorithm.{State}

abbrev pub Δ1 : F → F → F
Δ1 S0 S2 = S2 ⊕ pow S0 3

abbrev pub φ : F → F → F → F
φ S0 S2 S4 = S0 ⊙ S4 ⊕ pow S0 6 ⊕ S2 ⊙ pow S0 3 ⊕ pow S2 2

-- with S_0 zero the third iteration takes the other branch than the second: 101 or 110
unfoldable pub branch : F → F → F → ℕ
branch S0 S2 S4 =
    cond (is_zero S0)
    (cond (is_zero (Δ1 S0 S2)) 6 5)
    (cond (is_zero (Δ1 S0 S2)) (cond (is_zero (φ S0 S2 S4)) 3 2) (cond (is_zero (φ S0 S2 S4)) 1 0))

-- B begins behind the first coefficient of zB
abbrev pub v000 : F → F → F → State
v000 S0 S2 S4 = record {
  Λ = (S0 ⊙ Δ1 S0 S2) ◂ (pow S0 2 ⊙ Δ1 S0 S2) ◂ (S0 ⊙ S4 ⊕ pow S0 3 ⊙ S2) ◂ (S0 ⊙ φ S0 S2 S4) ◂ O;
  zB = 𝟎 ◂ S0 ◂ pow S0 2 ◂ Δ1 S0 S2 ◂ O;
  -- printed: S_0² S_2 Δ1 for the first term
  Δ = (pow S0 2 ⊙ pow S2 2 ⊙ Δ1 S0 S2 ⊕ (S0 ⊙ S4 ⊕ pow S0 3 ⊙ S2) ⊙ S4 ⊕ pow S0 5 ⊙ φ S0 S2 S4)
      ◂ 𝟎 ◂ (S0 ⊙ pow S2 2 ⊙ φ S0 S2 S4) ◂ O;
  Θ = (pow S0 2 ⊙ pow S2 2 ⊕ S4 ⊙ Δ1 S0 S2) ◂ O;
  γ = φ S0 S2 S4;
  LΛ = 3;
  LB+1 = 3;
}

abbrev pub v001 : F → F → F → State
v001 S0 S2 S4 = record {
  Λ = (S0 ⊙ Δ1 S0 S2) ◂ (pow S0 2 ⊙ Δ1 S0 S2) ◂ (pow S0 6 ⊕ pow S2 2) ◂ O;
  zB = 𝟎 ◂ 𝟎 ◂ 𝟎 ◂ 𝟏 ◂ S0 ◂ O;
  -- printed: S_0² S_2 Δ1 for the first term
  Δ = (pow S0 2 ⊙ pow S2 2 ⊙ Δ1 S0 S2 ⊕ (pow S0 6 ⊕ pow S2 2) ⊙ S4) ◂ O;
  Θ = (S4 ⊕ pow S0 5) ◂ 𝟎 ◂ (S0 ⊙ pow S2 2) ◂ O;
  γ = Δ1 S0 S2;
  LΛ = 2;
  LB+1 = 4;
}

abbrev pub v010 : F → F → F → State
v010 S0 S2 S4 = record {
  Λ = pow S0 2 ◂ pow S0 3 ◂ 𝟎 ◂ 𝟎 ◂ (S0 ⊙ S4 ⊕ pow S0 6) ◂ O;
  zB = 𝟎 ◂ S0 ◂ pow S0 2 ◂ O;
  Δ = (pow S0 3 ⊙ pow S2 2 ⊕ (S0 ⊙ S4 ⊕ pow S0 6) ⊙ S2) ◂ 𝟎 ◂ ((S0 ⊙ S4 ⊕ pow S0 6) ⊙ S4) ◂ O;
  Θ = (pow S0 2 ⊙ pow S2 2) ◂ O;
  γ = S0 ⊙ S4 ⊕ pow S0 6;
  LΛ = 4;
  LB+1 = 2;
}

abbrev pub v011 : F → F → F → State
v011 S0 S2 S4 = record {
  Λ = pow S0 2 ◂ pow S0 3 ◂ O;
  zB = 𝟎 ◂ 𝟎 ◂ 𝟎 ◂ 𝟎 ◂ 𝟎 ◂ 𝟏 ◂ O;
  Δ = (pow S0 3 ⊙ pow S2 2) ◂ O;
  Θ = S2 ◂ 𝟎 ◂ S4 ◂ O;
  γ = S0;
  LΛ = 1;
  LB+1 = 5;
}

abbrev pub v101 : F → F → F → State
v101 S0 S2 S4 = record {
  Λ = S2 ◂ 𝟎 ◂ S4 ◂ pow S2 2 ◂ O;
  zB = 𝟎 ◂ 𝟎 ◂ 𝟎 ◂ 𝟏 ◂ O;
  -- printed: S_2⁴ for the constant term
  Δ = pow S4 2 ◂ 𝟎 ◂ pow S2 4 ◂ O;
  Θ = S4 ◂ O;
  γ = S2;
  LΛ = 3;
  LB+1 = 3;
}

abbrev pub v110 : F → F → F → State
v110 S0 S2 S4 = record {
  Λ = 𝟏 ◂ 𝟎 ◂ 𝟎 ◂ 𝟎 ◂ 𝟎 ◂ S4 ◂ O;
  zB = 𝟎 ◂ 𝟏 ◂ O;
  Δ = O;
  Θ = O;
  γ = S4;
  LΛ = 5;
  LB+1 = 1;
}

-- the numbers 4 and 7 are of no branch vector
unfoldable pub formulas : ℕ → F → F → F → State
formulas b S0 S2 S4 =
    cond (eqb b 0) (v000 S0 S2 S4)
    (cond (eqb b 1) (v001 S0 S2 S4)
    (cond (eqb b 2) (v010 S0 S2 S4)
    (cond (eqb b 3) (v011 S0 S2 S4)
    (cond (eqb b 5) (v101 S0 S2 S4) (v110 S0 S2 S4)))))

abbrev pub direct : F → F → F → State
direct S0 S2 S4 = formulas (branch S0 S2 S4) S0 S2 S4
