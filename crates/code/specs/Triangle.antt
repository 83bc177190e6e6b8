-- Codewords in triangular form: subword i and what the subwords above it bring to it are one Reed-Solomon word with
-- `checks p i` zero syndromes.
--
--   ratio v i k     subword k's factor in what is carried to subword i: newton i k / newton i i for i below
--                   v, else zero
--   carried p s i   what the subwords above i bring to subword i
--   corner p s i    subword i with what is carried to it
--   Triangle p s    each corner has zero syndromes below `checks p i`
--
-- Proved: nothing is carried from subword v on (carried-high); for a valid profile, a block is a codeword just where it
-- is triangular (codeword_triangle, triangle-codeword), and for that the nested words and the subwords from v on are
-- enough (checked_triangle).
use Prim.Native.Nat.{ℕ, zero, suc, ◌+◌, ◌-◌, ◌≤◌, ◌<◌}
use Rattle.std.specs.Prelude.{◌≡◌, refl, cond, ltb}
use Rattle.std.proofs.Math.Path.{sym, ap, ap₂}
use Rattle.std.proofs.Common.{◌∙◌, lt-ltb, le-ltb}
use native.Mathlib.Omega.{arith}
use Rattle.std.proofs.Math.Decide.{dec_lt}
use Rattle.field.specs.Field.{F, 𝟎, ◌⊕◌, ◌⊙◌, zero-⊕, ⊕-zero, ⊙-zero, zero-⊙, one-⊙, ⊙-⊕}
use Rattle.field.specs.Field.{⊙-ring, inv}
use Rattle.field.proofs.Field.{mul-inv, ⊙-factor}
use Rattle.series.specs.Sum.{sum, sum-suc, sum_cong, sum-zero, ⊙-sum, sum_split}
use Rattle.series.specs.Series.{Series, ◌⊞◌}
use Rattle.profile.specs.declared.Profile.{Profile}
use Rattle.profile.specs.Definition.{capability, first-root, checks}
use Rattle.profile.specs.Valid.{Valid, checks-is, checks-high, checks_mono, checks-least}
use Rattle.code.specs.Systematic.{syndrome-⊞, syndrome-sum}
use Rattle.code.specs.Definition.{syndrome_of, InCodeOf, subword, nested, Codeword}
use Rattle.code.specs.Block.{Agree, syndrome-nested}
use Rattle.code.specs.Newton.{newton, newton-low, newton_nonzero, newton-zero, power_zero}

unfoldable pub ratio : ℕ → ℕ → ℕ → F
ratio v i k = cond (ltb i v) (newton i k ⊙ inv (newton i i)) 𝟎

unfoldable pub carried : Profile → Series → ℕ → Series
carried p s i q = sum (p.subwords - suc i) (λ k. ratio p.nested i (suc i + k) ⊙ subword p.length s (suc i + k) q)

abbrev pub corner : Profile → Series → ℕ → Series
corner p s i = subword p.length s i ⊞ carried p s i

abbrev pub Triangle : Profile → Series → Type 0
Triangle p s = (i : ℕ) → i < p.subwords → (j : ℕ) → j < checks p i → syndrome_of p (corner p s i) j ≡ 𝟎

pub ratio-low : (v i k : ℕ) → i < v → ratio v i k ≡ newton i k ⊙ inv (newton i i)
unfolding ratio
ratio-low v i k h = rw (lt-ltb i v h)

pub ratio-high : (v i k : ℕ) → v ≤ i → ratio v i k ≡ 𝟎
unfolding ratio
ratio-high v i k h = rw (le-ltb i v h)

pub carried-at : (p : Profile) (s : Series) (i q : ℕ)
    → carried p s i q
    ≡ sum (p.subwords - suc i) (λ k. ratio p.nested i (suc i + k) ⊙ subword p.length s (suc i + k) q)
unfolding carried
carried-at p s i q = refl

-- what is carried to subword i depends on the subwords above it
pub carried_cong : (p : Profile) (s t : Series) (i : ℕ) → Agree p (suc i) s t → (q : ℕ) → q < p.length
    → carried p s i q ≡ carried p t i q
unfolding carried
carried_cong p s t i same q h =
    sum_cong (p.subwords - suc i) _ _
    (λ k l. ap (λ x. ratio p.nested i (suc i + k) ⊙ x) (same (suc i + k) (omega arith) (omega arith) q h))

-- ---- corners of values, one value for each subword

module _ (m v : ℕ) (x : ℕ → F) (i : ℕ) where
  above : F
  above = sum (m - suc i) (λ k. ratio v i (suc i + k) ⊙ x (suc i + k))

  -- from subword v on nothing is carried
  above-high : v ≤ i → above ≡ 𝟎
  unfolding above
  above-high h = sum-zero (m - suc i) _ (λ k l. rw (ratio-high v i (suc i + k) h) (zero-⊙ _))

  -- below v the sum with Newton's polynomial i is the corner but for a factor
  corner-low : i < v → i < m → i < 255 → sum m (λ k. newton i k ⊙ x k) ≡ newton i i ⊙ (x i ⊕ above)
  unfolding above
  corner-low h l small =
      let e : m ≡ suc i + (m - suc i) = omega arith in
      ap (λ n. sum n (λ k. newton i k ⊙ x k)) e
      ∙ sum_split (suc i) (m - suc i) _
      ∙ ap₂ ◌⊕◌ own rest
      ∙ sym (⊙-⊕ (newton i i) _ _)
    where
      own : sum (suc i) (λ k. newton i k ⊙ x k) ≡ newton i i ⊙ x i
      own =
          sum-suc i _
          ∙ ap (λ t. t ⊕ newton i i ⊙ x i) (sum-zero i _ (λ k l. rw (newton-low i k l) (zero-⊙ _)))
          ∙ zero-⊕ _

      out : (b t : F) → b ⊙ t ≡ newton i i ⊙ (b ⊙ inv (newton i i) ⊙ t)
      out b t =
          sym (ap (λ u. u ⊙ (b ⊙ t)) (mul-inv (newton i i) (newton_nonzero i i (omega arith) small)) ∙ one-⊙ (b ⊙ t))
          ∙ simp ⊙-ring

      rest : sum (m - suc i) (λ k. newton i (suc i + k) ⊙ x (suc i + k)) ≡ newton i i ⊙ above
      rest = sum_cong (m - suc i) _ _ (λ k l. rw (ratio-low v i (suc i + k) h) (out _ _))
          ∙ sym (⊙-sum (newton i i) (m - suc i) _)

-- ---- blocks

pub carried-high : (p : Profile) (s : Series) (i q : ℕ) → p.nested ≤ i → carried p s i q ≡ 𝟎
unfolding carried above
carried-high p s i q h = above-high p.subwords p.nested (λ k. subword p.length s k q) i h

module _ (p : Profile) (s : Series) where
  -- syndrome j of each subword
  each : ℕ → ℕ → F
  each j k = syndrome_of p (subword p.length s k) j

  corner-syndrome : (i j : ℕ)
      → syndrome_of p (corner p s i) j ≡ each j i ⊕ above p.subwords p.nested (each j) i
  unfolding carried each above
  corner-syndrome i j =
      syndrome-⊞ (first-root p) p.length _ _ j
      ∙ ap (λ t. each j i ⊕ t)
      (syndrome-sum (first-root p) (p.subwords - suc i) p.length _ (λ k. subword p.length s (suc i + k)) j)

  module _ (ok : Valid p) where
    -- the first v subwords are not asked for
    pub checked_triangle : ((i : ℕ) → p.nested ≤ i → i < p.subwords
        → InCodeOf p p.t0 (subword p.length s i))
        → ((l : ℕ) → l < p.nested → InCodeOf p (capability p (p.nested - l)) (nested p s l)) → Triangle p s
    unfolding each
    checked_triangle high low i h j q = corner-syndrome i j ∙ go (dec_lt i p.nested)
      where
        go : Dec (i < p.nested) → each j i ⊕ above p.subwords p.nested (each j) i ≡ 𝟎
        go (yes below) =
            ⊙-factor (newton i i) _ (newton_nonzero i i (omega arith) (omega arith))
            (sym (corner-low p.subwords p.nested (each j) i below h (omega arith))
            ∙ newton-zero p.subwords (each j) i (λ l u.
            sym (syndrome-nested p s l j)
            ∙ low l (omega arith) j (omega (arith, checks-is p l, checks_mono p ok l i u))))
        go (no from) =
            ap₂ ◌⊕◌ (high i (omega arith) h j (omega (arith, checks-high p i (omega arith))))
            (above-high p.subwords p.nested (each j) i (omega arith))
            ∙ ⊕-zero 𝟎

    pub codeword_triangle : Codeword p s → Triangle p s
    codeword_triangle c = checked_triangle (λ i _ h. c.subwords i h) c.nested_words

    module _ (t : Triangle p s) where
      -- from the last subword down: r of them are left
      subwords-from : (r i : ℕ) → i < p.subwords → p.subwords ≤ i + r
          → InCodeOf p p.t0 (subword p.length s i)
      unfolding each above
      subwords-from zero i h l j q = absurd (omega arith)
      subwords-from (suc r) i h l j q =
          sym (⊕-zero _)
          ∙ ap (λ w. each j i ⊕ w) (sym (sum-zero (p.subwords - suc i) _ (λ k u.
          ap (λ w. ratio p.nested i (suc i + k) ⊙ w) (subwords-from r (suc i + k) (omega arith) (omega arith) j q)
          ∙ ⊙-zero _)))
          ∙ sym (corner-syndrome i j)
          ∙ t i h j (omega (arith, checks-least p ok i))

      nested-from : (l : ℕ) → l < p.nested → InCodeOf p (capability p (p.nested - l)) (nested p s l)
      unfolding each
      nested-from l h j q =
          syndrome-nested p s l j
          ∙ power_zero p.subwords (each j) l (λ i u.
          corner-low p.subwords p.nested (each j) i (omega arith) (omega arith) (omega arith)
          ∙ ap (λ w. newton i i ⊙ w)
          (sym (corner-syndrome i j) ∙ t i (omega arith) j (omega (arith, checks-is p l, checks_mono p ok i l u)))
          ∙ ⊙-zero _)

      pub triangle-codeword : Codeword p s
      triangle-codeword = record {
        subwords = λ i h. subwords-from p.subwords i h (omega arith);
        nested_words = nested-from;
      }
