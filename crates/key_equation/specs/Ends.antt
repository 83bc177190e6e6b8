-- A run to its end, round after round, as a program goes through it.
--
--   finish f rounds   the run after all of its events
--
-- Proved: events happen one list after the other (after-append); the whole run's end in each form (finish-is, and for
-- the states plain_end, lookahead-end, scaled-end). How the syndromes are cut into rounds does not count in it
-- (finish-joined), so an empty round changes nothing (empty_round).
use Rattle.std.specs.Prelude.{ℕ, ◌≡◌, refl, List, [], ◌∷◌, ◌++◌, length}
use Rattle.std.proofs.Math.Path.{sym}
use Rattle.std.proofs.Common.{ap, ap₂, ◌∙◌, append_assoc, arith}
use Rattle.std.proofs.Math.Seq.{take-length}
use Rattle.field.specs.Field.{F, ◌⊙◌, ⊙-one}
use Rattle.series.specs.Series.{Series, ◌⊠◌, K}
use Rattle.series.specs.Word.{entry, entry_past}
use Rattle.key_equation.specs.Shared.{or_one}
use Rattle.key_equation.specs.Plain as Plain
use Rattle.key_equation.specs.Run.{Form, Factors, At, Event, joined, events, outset, happen, after, run}
use Rattle.key_equation.specs.Run.{plain, lookahead, scaled, measure, factors}
use Rattle.key_equation.specs.Claim.{lookahead_is, scaled_is}
use Rattle.key_equation.specs.Ahead.{or_one-zero}
use Rattle.key_equation.specs.Walk.{Keeps, wanted, run_is, end-iterations, end-entered}
use Rattle.key_equation.specs.Agreement.{plain_keeps, lookahead_keeps, scaled_keeps}

unfoldable pub finish : (f : Form) → List (List F) → At f
finish f rounds = after f (events rounds) (outset f)

pub run_end : (f : Form) (rounds : List (List F)) → run f rounds (length (events rounds)) ≡ finish f rounds
unfolding run finish
run_end f rounds = ap (λ es. after f es (outset f)) (take-length (events rounds))

-- ---- events one after the other

pub after-append : (f : Form) (es fs : List Event) (p : At f) → after f (es ++ fs) p ≡ after f fs (after f es p)
unfolding after
after-append f [] fs p = refl
after-append f (e ∷ es) fs p = after-append f es fs (happen f e p)

-- ---- the end of the run

pub joined-append : (rounds more : List (List F)) → joined (rounds ++ more) ≡ joined rounds ++ joined more
unfolding joined
joined-append [] more = refl
joined-append (round ∷ rest) more = ap (λ t. round ++ t) (joined-append rest more)
    ∙ sym (append_assoc round (joined rest) (joined more))

module _ (f : Form) (want : ℕ → Series → Plain.State → Factors → f.State) (keeps : Keeps f want) where
  pub finish-is : (rounds : List (List F))
      → finish f rounds ≡ wanted f want (joined rounds) (joined rounds) (length (joined rounds))
  finish-is rounds =
      sym (run_end f rounds)
      ∙ run_is f want keeps rounds (length (events rounds))
      ∙ ap₂ (wanted f want (joined rounds)) (end-entered rounds)
      (end-iterations rounds (length (events rounds)) (omega arith))

  pub finish-joined : (rounds others : List (List F)) → joined rounds ≡ joined others
      → finish f rounds ≡ finish f others
  finish-joined rounds others e = finish-is rounds ∙ ap (λ l. wanted f want l l (length l)) e ∙ sym (finish-is others)

  pub empty_round : (rounds more : List (List F)) → finish f (rounds ++ ([] ∷ more)) ≡ finish f (rounds ++ more)
  unfolding joined
  empty_round rounds more = finish-joined _ _ (joined-append rounds ([] ∷ more) ∙ sym (joined-append rounds more))

-- the three states; n syndromes in all
module _ (rounds : List (List F)) where
  abbrev J : Series
  J = entry (joined rounds)

  abbrev n : ℕ
  n = length (joined rounds)

  pub plain_end : (finish plain rounds).state ≡ measure J n
  plain_end = ap (λ p. p.state) (finish-is plain _ plain_keeps rounds)

  pub lookahead-end : (finish lookahead rounds).state ≡ lookahead_is n J (measure J n)
  lookahead-end = ap (λ p. p.state) (finish-is lookahead _ lookahead_keeps rounds)

  pub scaled-end : (finish scaled rounds).state ≡ scaled_is n J (measure J n) (factors J n)
  scaled-end = ap (λ p. p.state) (finish-is scaled _ scaled_keeps rounds)

  -- S'_n is 1
  factor-end : (c : F) (f : Series) → K (c ⊙ or_one (J n)) ⊠ f ≡ K c ⊠ f
  factor-end c f = rw (or_one-zero (J n) (entry_past (joined rounds) n (omega arith)), ⊙-one) refl

  pub scaled-end-Λ : (finish scaled rounds).state.Λ ≡ K (factors J n).a ⊠ (measure J n).Λ
  scaled-end-Λ = ap (λ s. s.Λ) scaled-end ∙ factor-end _ _

  pub scaled-end-B : (finish scaled rounds).state.B ≡ K (factors J n).b ⊠ (measure J n).B
  scaled-end-B = ap (λ s. s.B) scaled-end ∙ factor-end _ _
