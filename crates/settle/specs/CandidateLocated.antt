-- The walk over the positions: what stands at position p, and what it leaves.
--
--   Walking k L Λ Ω p missing pattern   at position p: the candidate at the positions below p; how many of L roots were
--                                       not met there
--   Met n k L Λ Ω pattern               at the end: the candidate below some position up to n, all L roots below it
--   Walked n k L Λ Ω found              the pattern that was found is so; where none was, there are fewer roots below n
--
-- Proved: the walk's start (walking_start), its next position after a root (walking-root) and after another one
-- (walking-other), and its two ends (walked_all, walked-few); the pattern has no change beyond position n - 1
-- (met-below).
use Rattle.std.specs.Prelude.{ℕ, ◌+◌, ◌-◌, ◌≤◌, ◌<◌, ◌≡◌, refl, ◌≢◌, List, set, replicate, Option, MatchOption}
use Rattle.std.proofs.Common.{sym, ap, ap₂, ◌∙◌, add-one, arith}
use Rattle.field.specs.declared.Gf.{Gf}
use Rattle.field.specs.Field.{F, 𝟎, ◌⊙◌, inv, val}
use Rattle.series.specs.Series.{Series}
use Rattle.series.specs.Shift.{cut, cut_high}
use Rattle.series.specs.Degree.{below}
use Rattle.series.specs.Value.{value, value-more, odd}
use Rattle.series.specs.Array.{values, Filled, filled_none, filled_more, filled_skip}
use Rattle.series.specs.Word.{weight, weight-none, weight_skip, weight-take, weight_le, weight_split}
use Rattle.settling.specs.Locator.{W, lead-inv}
use Rattle.settling.specs.Candidate.{candidate, candidate-root, candidate-other, hits, hits-root, hits-other}

pub record Walking (k L : ℕ) (Λ Ω : Series) (p missing : ℕ) (pattern : List Gf) : Type 0 where
  pub filled : Filled 255 p (candidate k Λ Ω) pattern
  pub roots : weight p (hits k Λ) + missing ≡ L

pub record Met (n k L : ℕ) (Λ Ω : Series) (pattern : List Gf) : Type 0 where
  pub end : ℕ
  pub room : end ≤ n
  pub is : values pattern ≡ cut end (candidate k Λ Ω)
  pub all : weight end (hits k Λ) ≡ L

abbrev pub Walked : (n k L : ℕ) (Λ Ω : Series) → Option (List Gf) → Type 0
Walked n k L Λ Ω found = MatchOption found (weight n (hits k Λ) < L) (Met n k L Λ Ω)

-- Forney's formula, with the coefficients that Ω has
pub candidate-at : (k m : ℕ) (Λ Ω : Series) (p : ℕ) → value k Λ (W p) ≡ 𝟎 → below m Ω → m ≤ k
    → candidate k Λ Ω p ≡ W p ⊙ value m Ω (W p) ⊙ inv (value k (odd Λ) (W p))
candidate-at k m Λ Ω p z b h =
    candidate-root k Λ Ω p z
    ∙ ap₂ (λ s t. s ⊙ t ⊙ inv (value k (odd Λ) (W p))) (lead-inv p) (value-more m k Ω (W p) b h)

module _ {k L : ℕ} {Λ Ω : Series} where
  pub walking_start : Walking k L Λ Ω 0 L (replicate 255 (record { 0 = 0 }))
  walking_start = record { filled = filled_none 255 _; roots = omega (arith, weight-none (hits k Λ)) }

  module _ {p missing : ℕ} {pattern : List Gf} (w : Walking k L Λ Ω p missing pattern) where
    -- a root is one less that is missing
    pub walking-root : (m left : ℕ) (y : Gf) (d : F) (next : List Gf)
        → value k Λ (W p) ≡ 𝟎 → below m Ω → m ≤ k → p < 255 → 0 < missing
        → val y ≡ W p ⊙ value m Ω (W p) ⊙ inv d → d ≡ value k (odd Λ) (W p)
        → next ≡ set pattern p y → left ≡ missing - 1
        → Walking k L Λ Ω (p + 1) left next
    walking-root m left y d next z b h room some ey ed en el =
        record {
          filled = rw en (filled_more y w.filled room
              (ey ∙ ap (λ t. W p ⊙ value m Ω (W p) ⊙ inv t) ed ∙ sym (candidate-at k m Λ Ω p z b h)));
          roots = rw add-one (omega (arith, weight-take p (hits k Λ) (hits-root k Λ p z), w.roots));
        }

    pub walking-other : (left : ℕ) (next : List Gf) → value k Λ (W p) ≢ 𝟎 → next ≡ pattern → left ≡ missing
        → Walking k L Λ Ω (p + 1) left next
    walking-other left next z en el =
        record {
          filled = rw en (filled_skip (p + 1) w.filled (candidate-other k Λ Ω p z) refl);
          roots = rw add-one (omega (arith, weight_skip p (hits k Λ) (hits-other k Λ p z), w.roots));
        }

    pub walked_all : (n : ℕ) → p ≤ n → missing ≡ 0 → Met n k L Λ Ω pattern
    walked_all n h z = record { end = p; room = h; is = w.filled.is; all = omega (arith, w.roots) }

    pub walked-few : (n : ℕ) → p ≤ n → n - p < missing → weight n (hits k Λ) < L
    walked-few n h l =
        let e : n ≡ p + (n - p) = omega arith in
        omega (
          arith,
          ap (λ i. weight i (hits k Λ)) e,
          weight_split p (n - p) (hits k Λ),
          weight_le (n - p) (λ i. hits k Λ (p + i)),
          w.roots,
        )

pub met-below : {n k L : ℕ} {Λ Ω : Series} {pattern : List Gf} → Met n k L Λ Ω pattern → below n (values pattern)
met-below w i h = ap (λ (f : Series). f i) w.is ∙ cut_high w.end _ i (omega (arith, w.room))
