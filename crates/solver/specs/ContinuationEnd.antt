-- What a solver has found at the end of a list of rounds, the first n syndromes of S.
--
-- Proved: its Λ is a multiple of the measure's (ended-locator), and its length is the measure's (ended-length); it is
-- where the run over the rounds is after its last event (ended-stands).
use Rattle.std.specs.Prelude.{ℕ, ◌≡◌, List, pos, length}
use Rattle.std.proofs.Common.{sym, ap, ap₂, ◌∙◌, arith}
use Rattle.field.specs.Field.{F, 𝟏, one≢zero}
use Rattle.series.specs.Series.{Series, K, ◌⊠◌, one-⊠}
use Rattle.series.specs.Word.{entry, word, length-word, entry-word}
use Rattle.key_equation.specs.Shared.{len}
use Rattle.key_equation.specs.Plain as Plain
use Rattle.key_equation.specs.Length.{k_of-length}
use Rattle.key_equation.specs.Run.{At, joined, events, measure, factors}
use Rattle.key_equation.specs.Measure.{factors_nonzero, measure-agree}
use Rattle.key_equation.specs.Walk.{end-iterations}
use Rattle.key_equation.specs.Ends.{finish, run_end, plain_end, lookahead-end, scaled-end, scaled-end-Λ}
use Rattle.key_equation.specs.Shortest as Shortest
use Rattle.settling.specs.Candidate.{Multiple}
use Rattle.solver.specs.declared.Form.{Form}
use Rattle.solver.specs.declared.Form.TheVariants.{Plain, Lookahead, Scaled}
use Rattle.solver.specs.declared.Solver.{Solver}
use Rattle.solver.specs.Solver.{form_of, state_of, Is, k_in, Λ_in}
use Rattle.solver.specs.SolverLength.{HasLength, Stands}
use Rattle.solver.specs.ContinuationDefinition.{Ended}

-- ---- the measure over the rounds

module _ (rounds : List (List F)) where
  abbrev m : Plain.State
  m = measure (entry (joined rounds)) (length (joined rounds))

  Λ-end : (f : Form) → Multiple (Λ_in f (finish (form_of f) rounds).state) m.Λ
  Λ-end Plain = (𝟏, one≢zero, ap (λ s. s.Λ) (plain_end rounds) ∙ sym (one-⊠ _))
  Λ-end Lookahead = (𝟏, one≢zero, ap (λ s. s.Λ) (lookahead-end rounds) ∙ sym (one-⊠ _))
  Λ-end Scaled = ((factors _ _).a, (factors_nonzero _ _).0, scaled-end-Λ rounds)

  k-end : (f : Form) → k_in f (finish (form_of f) rounds).state ≡ m.k
  k-end Plain = ap (λ s. s.k) (plain_end rounds)
  k-end Lookahead = ap (λ s. s.k) (lookahead-end rounds)
  k-end Scaled = ap (λ s. s.k) (scaled-end rounds)

  -- only the first syndromes count
  module _ (n : ℕ) (S : Series) (are : joined rounds ≡ word n S) where
    m-is : m ≡ measure S n
    m-is =
        ap (λ J. measure (entry J) (length J)) are
        ∙ ap (measure (entry (word n S))) (length-word n S)
        ∙ measure-agree n (entry (word n S)) S (entry-word n S)

    module _ (f : Form) (s : Solver) (ended : Ended f rounds s) where
      pub ended-locator : (l : Series) → ((r : ℕ) (f : Form) (m : (form_of f).State) → Is f r s m → l ≡ Λ_in f m)
          → Multiple l (measure S n).Λ
      ended-locator l is =
          let (a, a≢0, e) = Λ-end f in
          (a, a≢0, is _ f _ ended ∙ e ∙ ap (λ m. K a ⊠ m.Λ) m-is)

      pub ended-length : (l : ℕ) → HasLength s l → l ≡ Shortest.length S n
      ended-length l is = k_of-length r l _ _ (is r f _ ended ∙ k-end f) long
        where
          r : ℕ
          r = length (joined rounds)

          long : len r m.k ≡ pos (Shortest.length S n)
          long = ap₂ len (ap length are ∙ length-word n S) (ap (λ m. m.k) m-is) ∙ Shortest.length_is S n

-- ---- where it is in the run

pub ended-stands : (f : Form) (rounds : List (List F)) (s : Solver) → Ended f rounds s
    → Stands f rounds (length (events rounds)) s
ended-stands f rounds s ended = (
  ended.0,
  ap (λ n. state_of f n s) (end-iterations rounds (length (events rounds)) (omega arith))
      ∙ ended.1
      ∙ sym (ap (λ (p : At (form_of f)). p.state) (run_end (form_of f) rounds)),
)
