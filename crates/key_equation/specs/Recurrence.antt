-- What the length tells of the syndromes: FORMAT 8.18.
--
--   Recurs S n e                 a linear recurrence of length e: each of S_e to S_(n−1) is a combination of the e
--                                values before it, with the same coefficients c
--   LinearComplexity S n L       L is the least such e. The papers' words: the shortest explanation
--   ComplexityAfter rounds k L   so it is for the syndromes that the first k events of a run over the rounds iterate
--                                over
--   Complexity rounds L          so it is for all syndromes of the rounds
--   LeastLength rounds k         the length of the run after its first k events is that number, in each form
--
-- Proved: recurrences are the solutions of the key equation, so that the length of the measure is the linear complexity
-- (complexity-length). There is one such number (complexity_unique), 0 for zeros alone (complexity-zeros). It is the
-- length of every run, in each form, at every point and however the syndromes are cut (least-length); after the last
-- event it is that of all syndromes (complexity-end).
use Rattle.std.specs.Prelude.{ℕ, suc, ◌-◌, ◌≤◌, ◌<◌, ◌≡◌, ◌↔◌, List, pos, length}
use Rattle.std.proofs.Common.{sym, ap, ap₂, ◌∙◌, subst, arith}
use Rattle.std.proofs.Math.Logic.{by_cases}
use Rattle.std.proofs.Math.Decide.{dec_le}
use Rattle.std.proofs.Math.Nat.{sub-zero}
use Rattle.field.specs.Field.{F, 𝟎, 𝟏, ◌⊕◌, ◌⊙◌, inv}
use Rattle.field.specs.Field.{⊕_self, ⊕-equal, zero-⊕, ⊙_assoc, one-⊙, zero-⊙, one≢zero}
use Rattle.field.proofs.Field.{inv_mul}
use Rattle.series.specs.Sum.{sum, sum-none, sum_head, sum_cong, sum_more, ⊙-sum}
use Rattle.series.specs.Series.{Series, K, Z, ◌⊞◌, ◌⊠◌, at_zero, ⊞-at, ⊠-at, K-suc, Z-⊠-at}
use Rattle.series.specs.Shift.{cut, cut_low, cut_high}
use Rattle.series.specs.Degree.{below, below_weaken, below-K, below-⊞, below-Z-⊠, below-cut}
use Rattle.series.specs.Word.{entry}
use Rattle.key_equation.specs.Shared.{len}
use Rattle.key_equation.specs.Run.{plain, lookahead, scaled, run, joined, events, iterations}
use Rattle.key_equation.specs.Walk.{end-iterations}
use Rattle.key_equation.specs.Agreement.{agreement}
use Rattle.key_equation.specs.Shortest as Shortest
use Rattle.key_equation.specs.Shortest.{Solution}

-- c 0 to c (e − 1) are FORMAT's c_1 to c_L
pub record Recurs (S : Series) (n e : ℕ) : Type 0 where
  pub c : ℕ → F
  pub at : (i : ℕ) → e ≤ i → i < n → S i ≡ sum e (λ j. c j ⊙ S (i - suc j))

pub record LinearComplexity (S : Series) (n L : ℕ) : Type 0 where
  pub recurs : Recurs S n L
  pub least : (e : ℕ) → Recurs S n e → L ≤ e

abbrev pub ComplexityAfter : List (List F) → ℕ → ℕ → Type 0
ComplexityAfter rounds k L = LinearComplexity (entry (joined rounds)) (iterations rounds k) L

abbrev pub Complexity : List (List F) → ℕ → Type 0
Complexity rounds L = LinearComplexity (entry (joined rounds)) (length (joined rounds)) L

-- L as FORMAT 8.4 has it, from k
pub record LeastLength (rounds : List (List F)) (k : ℕ) : Type 0 where
  pub L : ℕ
  pub least : ComplexityAfter rounds k L
  pub in_plain : len (iterations rounds k) (run plain rounds k).state.k ≡ pos L
  pub in_lookahead : len (iterations rounds k) (run lookahead rounds k).state.k ≡ pos L
  pub in_scaled : len (iterations rounds k) (run scaled rounds k).state.k ≡ pos L

-- ---- a solution of the key equation is a recurrence

-- coefficient i of σ·S, the constant term of σ apart; σ has degree e at most
product_apart : (σ S : Series) (e i : ℕ) → below (suc e) σ → e ≤ i
    → (σ ⊠ S) i ≡ σ 0 ⊙ S i ⊕ sum e (λ j. σ (suc j) ⊙ S (i - suc j))
product_apart σ S e i b h =
    ⊠-at σ S i
    ∙ sum_more (suc e) (suc i) _ (omega arith) (λ j l m. rw (b j l) (zero-⊙ _))
    ∙ sum_head e _
    ∙ ap (λ k. σ 0 ⊙ S k ⊕ sum e (λ j. σ (suc j) ⊙ S (i - suc j))) (sub-zero i)

-- the coefficients are those of σ, with 1 for σ 0
recurrence : (S σ ω : Series) (n e : ℕ) → Solution S n σ ω e → Recurs S n e
recurrence S σ ω n e s = record { c = λ j. inv (σ 0) ⊙ σ (suc j); at = holds }
  where
    holds : (i : ℕ) → e ≤ i → i < n → S i ≡ sum e (λ j. inv (σ 0) ⊙ σ (suc j) ⊙ S (i - suc j))
    holds i h l =
        let apart : σ 0 ⊙ S i ≡ sum e (λ j. σ (suc j) ⊙ S (i - suc j)) =
        ⊕-equal _ _ (sym (product_apart σ S e i s.below_σ h) ∙ s.agree i l ∙ s.below_ω i h) in
        sym (one-⊙ (S i))
        ∙ ap (λ u. u ⊙ S i) (sym (inv_mul (σ 0) s.σ0≢0))
        ∙ ⊙_assoc _ _ _
        ∙ ap (λ u. inv (σ 0) ⊙ u) apart
        ∙ ⊙-sum (inv (σ 0)) e _
        ∙ sum_cong e _ _ (λ j m. sym (⊙_assoc _ _ _))

-- ---- a recurrence is a solution: σ is 1 + z·c

module _ (S : Series) (n e : ℕ) (x : Recurs S n e) where
  σ : Series
  σ = K 𝟏 ⊞ Z ⊠ cut e x.c

  σ-first : σ 0 ≡ 𝟏
  unfolding σ
  σ-first = simp at_zero

  σ-next : (j : ℕ) → j < e → σ (suc j) ≡ x.c j
  unfolding σ
  σ-next j l = ⊞-at _ _ (suc j) ∙ rw (K-suc, Z-⊠-at, cut_low e x.c j l) (zero-⊕ _)

  σ-below : below (suc e) σ
  unfolding σ
  σ-below =
      below-⊞ _ _ _ (below_weaken 1 _ _ (below-K 𝟏) (omega arith)) (below-Z-⊠ _ _ (below-cut e x.c))

  past : (i : ℕ) → e ≤ i → i < n → (σ ⊠ S) i ≡ 𝟎
  past i h l =
      product_apart σ S e i σ-below h
      ∙ ap₂ ◌⊕◌ (ap (λ u. u ⊙ S i) σ-first ∙ one-⊙ (S i) ∙ x.at i h l)
      (sum_cong e _ _ (λ j m. ap (λ u. u ⊙ S (i - suc j)) (σ-next j m)))
      ∙ ⊕_self _

  solution : Solution S n σ (cut e (σ ⊠ S)) e
  solution = record {
    σ0≢0 = rw σ-first one≢zero;
    below_σ = σ-below;
    below_ω = below-cut e (σ ⊠ S);
    agree = λ i l. by_cases (dec_le e i)
        (λ h. past i h l ∙ sym (cut_high e (σ ⊠ S) i h))
        (λ h. sym (cut_low e (σ ⊠ S) i (omega arith)));
  }

-- ---- the linear complexity

pub complexity-length : (S : Series) (n : ℕ) → LinearComplexity S n (Shortest.length S n)
complexity-length S n = record {
  recurs = recurrence S _ _ n _ (Shortest.solution S n);
  least = λ e x. Shortest.shortest S n _ _ e (solution S n e x);
}

pub complexity_unique : (S : Series) (n L M : ℕ) → LinearComplexity S n L → LinearComplexity S n M → L ≡ M
complexity_unique S n L M x y = omega (arith, x.least M y.recurs, y.least L x.recurs)

pub complexity-zeros : (S : Series) (n : ℕ) → LinearComplexity S n 0 ↔ ((i : ℕ) → i < n → S i ≡ 𝟎)
complexity-zeros S n = (
  λ x i l. x.recurs.at i (omega arith) l ∙ sum-none _,
  λ zeros. record {
    recurs = record { c = λ j. 𝟎; at = λ i h l. zeros i l ∙ sym (sum-none _) };
    least = λ e x. omega arith;
  },
)

-- ---- of runs

pub least-length : (rounds : List (List F)) (k : ℕ) → LeastLength rounds k
least-length rounds k =
    let agreed = agreement rounds k in
    let measured = Shortest.length_is (entry (joined rounds)) (iterations rounds k) in
    record {
      L = Shortest.length (entry (joined rounds)) (iterations rounds k);
      least = complexity-length _ _;
      in_plain = agreed.in_plain.L ∙ measured;
      in_lookahead = agreed.in_lookahead.L ∙ measured;
      in_scaled = agreed.in_scaled.L ∙ measured;
    }

-- after its last event a run has iterated over all syndromes
pub complexity-end : (rounds : List (List F)) (k L : ℕ) → ComplexityAfter rounds k L → length (events rounds) ≤ k
    → Complexity rounds L
complexity-end rounds k L x h = subst (λ n. LinearComplexity (entry (joined rounds)) n L) (end-iterations rounds k h) x
