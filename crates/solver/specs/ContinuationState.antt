-- A solver on its way through a round.
--
--   state f r S       the state of the form f after r iterations over S, the syndromes so far
--   Reached f r S s   s is a solver in the form f in this state
--
-- Proved: from the end of the rounds before, the entry of a round and its iterations lead to the round's end
-- (advanced-ended).
use Prim.Native.Nat.{ℕ, zero, suc, ◌+◌, ◌-◌, ◌≤◌}
use Rattle.std.specs.Prelude.{◌≡◌, refl, List, [], ◌∷◌, ◌++◌, length, take, replicate}
use Rattle.std.proofs.Common.{sym, ap₂, ◌∙◌, append-nil, length-append}
use Rattle.std.proofs.Math.Path.{ap, subst}
use native.Mathlib.Omega.{arith}
use Rattle.field.specs.Field.{F, 𝟎}
use Rattle.series.specs.Series.{Series}
use Rattle.series.specs.Degree.{below, below-cut_eq}
use Rattle.series.specs.Word.{entry, word, length-word, entry-word, entry_past, word_cut}
use Rattle.key_equation.specs.Plain as Plain
use Rattle.key_equation.specs.Run.{Factors, iteration, joined, events, count, entered}
use Rattle.key_equation.specs.Run.{iterations, so_far, measure, factors}
use Rattle.key_equation.specs.Claim.{lookahead_is, scaled_is}
use Rattle.key_equation.specs.Ahead.{Agree}
use Rattle.key_equation.specs.Measure.{measure-γ, factors_nonzero, measure-agree, factors-agree}
use Rattle.key_equation.specs.Walk.{Keeps, run-state}
use Rattle.key_equation.specs.Agreement.{plain_keeps, lookahead_keeps, scaled_keeps}
use Rattle.key_equation.specs.Ends.{finish, finish-is, joined-append}
use Rattle.solver.specs.declared.Form.{Form}
use Rattle.solver.specs.declared.Form.TheVariants.{Plain, Lookahead, Scaled}
use Rattle.solver.specs.declared.Solver.{Solver}
use Rattle.solver.specs.Solver.{form_of, state_of, Is, clip, iterate_clipped, iterated, clip-run}
use Rattle.solver.specs.ContinuationDefinition.{Ended, Next, Advanced}

-- ---- the state

abbrev want : (f : Form) → ℕ → Series → Plain.State → Factors → (form_of f).State
want Plain r S m x = m
want Lookahead r S m x = lookahead_is r S m
want Scaled r S m x = scaled_is r S m x

keeps : (f : Form) → Keeps (form_of f) (want f)
keeps Plain = plain_keeps
keeps Lookahead = lookahead_keeps
keeps Scaled = scaled_keeps

unfoldable pub state : (f : Form) → ℕ → Series → (form_of f).State
state f r S = want f r S (measure S r) (factors S r)

state-finish : (f : Form) (rounds : List (List F))
    → (finish (form_of f) rounds).state ≡ state f (length (joined rounds)) (entry (joined rounds))
unfolding state
state-finish f rounds = ap (λ p. p.state) (finish-is (form_of f) (want f) (keeps f) rounds)

state-enter : (f : Form) (u : ℕ) (S J : Series) → Agree u S J → S u ≡ 𝟎
    → (form_of f).enter u J (state f u S) ≡ state f u J
unfolding state
state-enter f u S J h z =
    (keeps f).enters u S J (measure S u) (factors S u) h z
    ∙ ap₂ (want f u J) (measure-agree u S J h) (factors-agree u S J h)

state-iterate : (f : Form) (r : ℕ) (S : Series) → (form_of f).iterate r S (state f r S) ≡ state f (suc r) S
unfolding state measure factors Plain.iterate
state-iterate f r S = (keeps f).iterates r S (measure S r) (factors S r) (factors_nonzero S r).0 (measure-γ S r)

-- ---- nothing is lost

-- r iterations of a round of n syndromes
iterations-of : (r n : ℕ) → r ≤ n → count (take r (replicate n iteration ++ [])) ≡ r
unfolding count
iterations-of zero n h = refl
iterations-of (suc r) zero h = absurd (omega arith)
iterations-of (suc r) (suc n) h = ap suc (iterations-of r n (omega arith))

entered_of : (r n : ℕ) → entered (take r (replicate n iteration ++ [])) ≡ []
unfolding entered
entered_of zero n = refl
entered_of (suc r) zero = refl
entered_of (suc r) (suc n) = entered_of r n

-- S is the one round J
state-whole : (f : Form) (J : List F) (r : ℕ) → r ≤ length J → length J ≤ 48
    → clip f (state f r (entry J)) ≡ state f r (entry J)
unfolding state iterations so_far events count entered joined
state-whole f J r h few =
    subst (λ m. clip f m ≡ m)
    (run-state (form_of f) (want f) (keeps f) (J ∷ []) (suc r)
    ∙ ap₂ at (ap (λ t. J ++ t) (entered_of r (length J)) ∙ append-nil J) (iterations-of r (length J) h)
    ∙ ap (λ t. want f r (entry J) (measure (entry t) r) (factors (entry t) r)) (append-nil J))
    (clip-run f (J ∷ []) (omega (arith, length-append J [])) (suc r))
  where
    at : List F → ℕ → (form_of f).State
    at known n = want f n (entry known) (measure (entry (joined (J ∷ []))) n) (factors (entry (joined (J ∷ []))) n)

-- ---- a solver in this state

abbrev pub Reached : Form → ℕ → Series → Solver → Type 0
Reached f r S s = Is f r s (state f r S)

-- the end of rounds that are the first n syndromes of S
module _ (f : Form) (rounds : List (List F)) (n : ℕ) (S : Series) (are : joined rounds ≡ word n S) (s : Solver) where
  long : length (joined rounds) ≡ n
  long = ap length are ∙ length-word n S

  end : (finish (form_of f) rounds).state ≡ state f n (entry (word n S))
  end = state-finish f rounds ∙ ap (λ J. state f (length J) (entry J)) are
      ∙ ap (λ k. state f k (entry (word n S))) (length-word n S)

  ended_reached : Ended f rounds s → Reached f n (entry (word n S)) s
  ended_reached h = (h.0, ap (λ k. state_of f k s) (sym long) ∙ h.1 ∙ end)

  reached-ended : Reached f n (entry (word n S)) s → Ended f rounds s
  reached-ended h = (h.0, ap (λ k. state_of f k s) long ∙ h.1 ∙ sym end)

entry_whole : (v : ℕ) (S : Series) → below v S → entry (word v S) ≡ S
entry_whole v S past = word_cut v S ∙ below-cut_eq v S past

module _ (rounds : List (List F)) (round : List F) (u v : ℕ) (S : Series) (next : Next rounds round u v S) where
  next-rising : u ≤ v
  next-rising =
      omega (
        arith,
        length-word u S,
        length-word v S,
        ap length next.from,
        ap length next.to,
        ap length (joined-append rounds (round ∷ [])),
        length-append (joined rounds) (joined (round ∷ [])),
      )

  module _ (f : Form) where
    -- nothing is lost, iteration after iteration
    iterated-state : (n : ℕ) → u + n ≤ v → iterated (iterate_clipped f S) u n (state f u S) ≡ state f (u + n) S
    unfolding iterated
    iterated-state zero h = let e : u ≡ u + 0 = omega arith in ap (λ n. state f n S) e
    iterated-state (suc n) h =
        let e : suc (u + n) ≡ u + suc n = omega arith in
        ap (iterate_clipped f S (u + n)) (iterated-state n (omega arith)) ∙ ap (clip f) (state-iterate f (u + n) S)
        ∙ whole ∙ ap (λ n. state f n S) e
      where
        whole : clip f (state f (suc (u + n)) S) ≡ state f (suc (u + n)) S
        whole =
            subst (λ S. clip f (state f (suc (u + n)) S) ≡ state f (suc (u + n)) S) (entry_whole v S next.past)
            (state-whole f (word v S) (suc (u + n)) (omega (arith, length-word v S))
            (omega (arith, length-word v S, next.few)))

    -- the entry, then the iterations
    through : iterated (iterate_clipped f S) u (v - u) ((form_of f).enter u S (state f u (entry (word u S))))
        ≡ state f (u + (v - u)) S
    through =
        ap (iterated (iterate_clipped f S) u (v - u)) (state-enter f u (entry (word u S)) S (entry-word u S) none)
        ∙ iterated-state (v - u) (omega (arith, next-rising))
      where
        none : entry (word u S) u ≡ 𝟎
        none = entry_past (word u S) u (omega (arith, length-word u S))

    pub advanced-ended : (s p : Solver) → Advanced u v S s p → Ended f rounds s → Ended f (rounds ++ (round ∷ [])) p
    advanced-ended s p advanced ended =
        reached-ended f _ v S next.to p
        (subst (λ n. Reached f n (entry (word v S)) p) at (goes.0, goes.1 ∙ through ∙ whole))
      where
        at : u + (v - u) ≡ v
        at = omega (arith, next-rising)

        goes : Is f (u + (v - u)) p
            (iterated (iterate_clipped f S) u (v - u) ((form_of f).enter u S (state f u (entry (word u S)))))
        goes = advanced f _ (ended_reached f rounds u S next.from s ended)

        whole : state f (u + (v - u)) S ≡ state f (u + (v - u)) (entry (word v S))
        whole = ap (state f (u + (v - u))) (sym (entry_whole v S next.past))
