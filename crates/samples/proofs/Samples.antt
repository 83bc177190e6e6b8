-- The samples are proved: one theorem for the whole table.
--
--   proved     every entry's claim holds
--
-- The encoding of data is defined by a search that is never run: a block that encodes the data is the encoding, and
-- antt computes that it does. A run's polynomials are equal to those of the sample at every coefficient: below n + 1, n
-- being the number of syndromes, antt computes both; from there on both are zero.
use Rattle.std.specs.Prelude.{ℕ, suc, Bool, true, ◌&&◌, List, [], ◌∷◌, map, T, eqb, ℤ, length}
use Rattle.std.proofs.Common.{ap, ◌∙◌, eqb→eq}
use Rattle.std.proofs.Math.Bool.{xor}
use Rattle.field.specs.Definition.{𝟎, 𝟏, α, ◌⊕◌, ◌⊙◌, of, byte, is_odd, bit, is_zero, pow, inv, plus, times, scale}
use Rattle.field.specs.Definition.{z⁸, horner, modulo, coefficients}
use Rattle.field.specs.Test.{all, and_both}
use Rattle.series.specs.Sum.{sum}
use Rattle.series.specs.Series.{Series, O, K, Z, ◌⊞◌, ◌⊠◌}
use Rattle.series.specs.Degree.{below-K-⊠}
use Rattle.series.specs.Value.{value}
use Rattle.series.specs.Word.{entry}
use Rattle.series.specs.Array as Array
use Rattle.series.specs.Array.{bytes}
use Rattle.key_equation.specs.Shared.{swaps, from_to}
use Rattle.key_equation.specs.Plain as Plain
use Rattle.key_equation.specs.Run.{Factors, joined, measure, factors}
use Rattle.key_equation.specs.Measure.{measure-below}
use Rattle.key_equation.specs.Ends.{plain_end, scaled-end, scaled-end-Λ, scaled-end-B}
use Rattle.profile.specs.Definition.{block_size, data_size}
use Rattle.profile.specs.Questions.{asked, read}
use Rattle.code.specs.Word.{root, syndrome}
use Rattle.code.specs.Definition.{subword, nested}
use Rattle.code.specs.Encoding.{encoding-bytes}
use Rattle.samples.specs.Test.{equal, equal_is, same, same-is, sameℤ, sameℤ-is}
use Rattle.samples.specs.Test.{passes, accepted, accepted-is, codeword, carries, encodes, encodes-is}
use Rattle.samples.specs.Samples.{Sample, Claim, samples, All}
use Rattle.samples.specs.Samples.{product, written, plain_run, scaled_run}

-- ---- the test that antt computes

-- one round, and its length
abbrev J : List ℕ → Series
J S = entry (joined (map of S ∷ []))

abbrev n : List ℕ → ℕ
n S = length (joined (map of S ∷ []))

plain_test : (S Λ B : List ℕ) (γ : ℕ) (k : ℤ) → Plain.State → Bool
plain_test S Λ B γ k m =
    same (suc (n S)) m.Λ Λ && (same (suc (n S)) m.B B && (equal m.γ (of γ) && sameℤ m.k k))

scaled_test : (S Λ B : List ℕ) (γ' : ℕ) → Plain.State → Factors → Bool
scaled_test S Λ B γ' m x =
    same (suc (n S)) (K x.a ⊠ m.Λ) Λ && (same (suc (n S)) (K x.b ⊠ m.B) B && equal (x.b ⊙ m.γ) (of γ'))

test : Sample → Bool
test (product a b c) = eqb (byte (of a ⊙ of b)) c
test (written b d s) =
    accepted b && (eqb (length d) (data_size (read b))
    && (eqb (length s) (block_size (read b)) && encodes (read b) (bytes d) (bytes s)))
test (plain_run S Λ B γ k) = plain_test S Λ B γ k (measure (J S) (n S))
test (scaled_run S Λ B γ') = scaled_test S Λ B γ' (measure (J S) (n S)) (factors (J S) (n S))

holding : (s : Sample) → T (test s) → Claim s
unfolding test Claim plain_test scaled_test
holding (product a b c) t = eqb→eq _ c t
holding (written b d s) t =
    let (t0, t1) = and_both (accepted b) _ t in
    let (t2, t3) = and_both (eqb (length d) (data_size (read b))) _ t1 in
    let (t4, t5) = and_both (eqb (length s) (block_size (read b))) _ t3 in
    let (e, valid) = accepted-is b t0 in (
      e,
      eqb→eq _ _ t2,
      encoding-bytes (read b) valid d s (eqb→eq _ _ t4) (encodes-is (read b) valid (bytes d) (bytes s) t5),
    )
holding (plain_run S Λ B γ k) t =
    let m = measure (J S) (n S) in
    let (t0, t1) = and_both (same (suc (n S)) m.Λ Λ) _ t in
    let (t2, t3) = and_both (same (suc (n S)) m.B B) _ t1 in
    let (t4, t5) = and_both (equal m.γ (of γ)) _ t3 in
    plain_end (map of S ∷ []) ∙ λ i. record {
      Λ = same-is _ _ Λ (measure-below (J S) (n S)).0 t0 i;
      B = same-is _ _ B (measure-below (J S) (n S)).1 t2 i;
      γ = equal_is _ _ t4 i;
      k = sameℤ-is m.k k t5 i;
    }
holding (scaled_run S Λ B γ') t =
    let m = measure (J S) (n S) in
    let x = factors (J S) (n S) in
    let (t0, t1) = and_both (same (suc (n S)) (K x.a ⊠ m.Λ) Λ) _ t in
    let (t2, t3) = and_both (same (suc (n S)) (K x.b ⊠ m.B) B) _ t1 in (
      scaled-end-Λ (map of S ∷ []) ∙ same-is _ _ Λ (below-K-⊠ _ _ _ (measure-below (J S) (n S)).0) t0,
      scaled-end-B (map of S ∷ []) ∙ same-is _ _ B (below-K-⊠ _ _ _ (measure-below (J S) (n S)).1) t2,
      ap (λ s. s.γ') (scaled-end (map of S ∷ [])) ∙ equal_is _ _ t3,
    )

tests : List Sample → Bool
tests [] = true
tests (s ∷ ss) = test s && tests ss

all-holding : (ss : List Sample) → T (tests ss) → All Claim ss
unfolding tests All
all-holding [] t = tt
all-holding (s ∷ ss) t = let (t0, t1) = and_both (test s) _ t in (holding s t0, all-holding ss t1)

computed : T (tests samples)
unfolding samples tests test plain_test scaled_test equal same sameℤ asked passes accepted codeword carries
    encodes all Array.read entry
    subword nested syndrome root value joined measure factors Plain.iterate Plain.δ swaps from_to sum O K Z ◌⊞◌ ◌⊠◌
    𝟎 𝟏 α ◌⊕◌ ◌⊙◌ of byte is_odd bit is_zero pow inv plus times scale z⁸ horner modulo coefficients xor
computed = tt

-- ---- the theorem

pub proved : All Claim samples
proved = all-holding samples computed
