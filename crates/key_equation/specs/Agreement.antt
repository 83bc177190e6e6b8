-- The agreement theorem, FORMAT 8.15: the three forms stay as the measure says, for any list of rounds.
--
--   PlainBelow, LookaheadBelow, ScaledBelow   the polynomials of a state have coefficients below n alone
--   Bounded n rounds k                        so it is in each form, after the first k events of these rounds
--
-- Proved: each form's whole state, as one equation (plain_run, lookahead-run, scaled_run); from these the claim
-- (agreement); 49 coefficients hold every polynomial of a run of at most 48 syndromes (fits).
use Rattle.std.specs.Prelude.{ℕ, ◌+◌, ◌≤◌, ◌<◌, ◌≡◌, refl, ◌≢◌, Bool, List, length}
use Rattle.std.proofs.Common.{sym, ◌∙◌, arith}
use Rattle.std.proofs.Math.Path.{ap, subst}
use Rattle.std.proofs.Math.Bool.{cond}
use Rattle.field.specs.Field.{F, 𝟎, 𝟏, ◌⊙◌, is_zero}
use Rattle.field.proofs.Field.{⊙_nonzero}
use Rattle.series.specs.Series.{Series, K-⊠-at}
use Rattle.series.specs.Degree.{below, below_weaken, below-K-⊠}
use Rattle.series.specs.Word.{entry}
use Rattle.key_equation.specs.Shared.{len, ahead}
use Rattle.key_equation.specs.Plain as Plain
use Rattle.key_equation.specs.Lookahead as Lookahead
use Rattle.key_equation.specs.Scaled as Scaled
use Rattle.key_equation.specs.Run.{Factors, plain, lookahead, scaled, run, iterations, so_far, joined}
use Rattle.key_equation.specs.Run.{measure, measure_swapped, factors}
use Rattle.key_equation.specs.Claim.{PlainAgrees, LookaheadAgrees, ScaledAgrees, Agreed, lookahead_is, scaled_is}
use Rattle.key_equation.specs.Ahead.{ahead-below, or_one_nonzero}
use Rattle.key_equation.specs.LookaheadStep as LookaheadStep
use Rattle.key_equation.specs.ScaledStep as ScaledStep
use Rattle.key_equation.specs.Measure.{factors_nonzero, measure-below}
use Rattle.key_equation.specs.Walk.{Keeps, run-state, run-swapped, iterations_le}

-- ---- the whole states

pub plain_keeps : Keeps plain (λ r S m x. m)
plain_keeps = record {
  starts = λ S z. refl;
  enters = λ u S S' m x h z. refl;
  iterates = λ r S m x a≢0 γ≢0. refl;
  swaps = λ r S m x a≢0 γ≢0. refl;
}

pub lookahead_keeps : Keeps lookahead (λ r S m x. lookahead_is r S m)
lookahead_keeps = record {
  starts = LookaheadStep.start_is;
  enters = λ u S S' m x h z. LookaheadStep.enter-is u S S' m h z;
  iterates = λ r S m x a≢0 γ≢0. LookaheadStep.iterate-is r S m;
  swaps = λ r S m x a≢0 γ≢0. LookaheadStep.swapping-is r S m;
}

pub scaled_keeps : Keeps scaled scaled_is
scaled_keeps = record {
  starts = ScaledStep.start_is;
  enters = ScaledStep.enter-is;
  iterates = ScaledStep.iterate-is;
  swaps = ScaledStep.swapping-is;
}

module _ (rounds : List (List F)) (k : ℕ) where
  abbrev r : ℕ
  r = iterations rounds k

  abbrev S : Series
  S = so_far rounds k

  abbrev m : Plain.State
  m = measure (entry (joined rounds)) (iterations rounds k)

  abbrev x : Factors
  x = factors (entry (joined rounds)) (iterations rounds k)

  abbrev swapped : ℕ → Bool
  swapped = measure_swapped (entry (joined rounds)) (iterations rounds k)

  pub plain_run : (run plain rounds k).state ≡ m
  plain_run = run-state plain _ plain_keeps rounds k

  pub lookahead-run : (run lookahead rounds k).state ≡ lookahead_is r S m
  lookahead-run = run-state lookahead _ lookahead_keeps rounds k

  pub scaled_run : (run scaled rounds k).state ≡ scaled_is r S m x
  scaled_run = run-state scaled _ scaled_keeps rounds k

  pub plain-swapped : (run plain rounds k).swapped ≡ swapped
  plain-swapped = run-swapped plain _ plain_keeps rounds k

  pub lookahead-swapped : (run lookahead rounds k).swapped ≡ swapped
  lookahead-swapped = run-swapped lookahead _ lookahead_keeps rounds k

  pub scaled-swapped : (run scaled rounds k).swapped ≡ swapped
  scaled-swapped = run-swapped scaled _ scaled_keeps rounds k

  -- ---- the claim, from these equations

  plain_agrees : PlainAgrees r m swapped (run plain rounds k)
  plain_agrees = record {
    swaps = plain-swapped;
    k = ap (λ t. t.k) plain_run;
    L = ap (λ t. len r t.k) plain_run;
    Λ = ap (λ t. t.Λ) plain_run;
    B = ap (λ t. t.B) plain_run;
    γ = ap (λ t. t.γ) plain_run;
  }

  lookahead_agrees : LookaheadAgrees r S m swapped (run lookahead rounds k)
  unfolding ahead
  lookahead_agrees = record {
    swaps = lookahead-swapped;
    k = ap (λ t. t.k) lookahead-run;
    L = ap (λ t. len r t.k) lookahead-run;
    Λ = ap (λ t. t.Λ) lookahead-run;
    B = ap (λ t. t.B) lookahead-run;
    γ = ap (λ t. t.γ) lookahead-run;
    Δ = λ j. ap (λ t. t.Δ j) lookahead-run;
    Θ = λ j. ap (λ t. t.Θ j) lookahead-run;
    γS = held (λ t. t.γS ≡ t.γ ⊙ S (r + 1)) refl;
    δS = held (λ t. t.δS ≡ t.Δ 0 ⊙ S (r + 1)) refl;
    θS = held (λ t. t.θS ≡ t.Θ 0 ⊙ S (r + 2)) refl;
    g1 = ap (λ t. t.g1) lookahead-run;
    g2 = ap (λ t. t.g2) lookahead-run;
    h1 = held (λ t. t.h1 ≡ t.γ ⊙ S (r + 2)) refl;
    h2 = held (λ t. t.h2 ≡ t.γ ⊙ S (r + 1) ⊙ S (r + 2)) refl;
  }
    where
      held : (P : Lookahead.State → Type 0) → P (lookahead_is r S m) → P (run lookahead rounds k).state
      held P h = subst P (sym lookahead-run) h

  scaled_agrees : ScaledAgrees r S m x swapped (run scaled rounds k)
  unfolding ahead
  scaled_agrees = record {
    swaps = scaled-swapped;
    k = ap (λ t. t.k) scaled_run;
    L = ap (λ t. len r t.k) scaled_run;
    a≢0 = a≢0;
    b≢0 = b≢0;
    aS≢0 = ⊙_nonzero _ _ a≢0 (or_one_nonzero (S r));
    bS≢0 = ⊙_nonzero _ _ b≢0 (or_one_nonzero (S r));
    Λ = ap (λ t. t.Λ) scaled_run;
    B = ap (λ t. t.B) scaled_run;
    γ' = ap (λ t. t.γ') scaled_run;
    Δ = λ j. ap (λ t. t.Δ j) scaled_run ∙ K-⊠-at x.a _ j;
    Θ = λ j. ap (λ t. t.Θ j) scaled_run ∙ K-⊠-at x.b _ j;
    g = ap (λ t. t.g) scaled_run;
    ρ = held (λ t. t.ρ ≡ cond (is_zero (t.Δ 0)) 𝟏 t.γ') refl;
    ξ = held (λ t. t.ξ ≡ t.Δ 0) refl;
    ρS = held (λ t. t.ρS ≡ t.g ⊙ t.ρ) refl;
    ξS = held (λ t. t.ξS ≡ t.g ⊙ t.ξ) refl;
  }
    where
      a≢0 : x.a ≢ 𝟎
      a≢0 = (factors_nonzero (entry (joined rounds)) r).0

      b≢0 : x.b ≢ 𝟎
      b≢0 = (factors_nonzero (entry (joined rounds)) r).1

      held : (P : Scaled.State → Type 0) → P (scaled_is r S m x) → P (run scaled rounds k).state
      held P h = subst P (sym scaled_run) h

-- FORMAT 8.15: `rounds` is any list, and k counts the events, entries and iterations, that have happened.
--
--   swaps as the measure, its k and L      swaps, k and L, in each form
--   the measure's Λ, B and γ               Λ, B and γ of in_plain and in_lookahead
--   ahead: Δ and Θ as 8.7 says             Δ and Θ of in_lookahead
--   ahead: the held scalars                γS, δS, θS, g1, g2, h1, h2 of in_lookahead
--   scaled: Λ and B with factors, γ'       Λ, B and γ' of in_scaled
--   scaled: no factor is zero              a≢0, b≢0, aS≢0, bS≢0 of in_scaled
--   scaled: Δ and Θ with factors           Δ and Θ of in_scaled
--   scaled: the held scalars               g, ρ, ξ, ρS, ξS of in_scaled
--
-- There is no bound on the number of syndromes.
pub agreement : (rounds : List (List F)) (k : ℕ) → Agreed rounds k
agreement rounds k = record {
  in_plain = plain_agrees rounds k;
  in_lookahead = lookahead_agrees rounds k;
  in_scaled = scaled_agrees rounds k;
}

-- ---- degrees

pub record PlainBelow (n : ℕ) (s : Plain.State) : Type 0 where
  pub Λ : below n s.Λ
  pub B : below n s.B

pub record LookaheadBelow (n : ℕ) (s : Lookahead.State) : Type 0 where
  pub Λ : below n s.Λ
  pub B : below n s.B
  pub Δ : below n s.Δ
  pub Θ : below n s.Θ

pub record ScaledBelow (n : ℕ) (s : Scaled.State) : Type 0 where
  pub Λ : below n s.Λ
  pub B : below n s.B
  pub Δ : below n s.Δ
  pub Θ : below n s.Θ

pub record Bounded (n : ℕ) (rounds : List (List F)) (k : ℕ) : Type 0 where
  pub in_plain : PlainBelow n (run plain rounds k).state
  pub in_lookahead : LookaheadBelow n (run lookahead rounds k).state
  pub in_scaled : ScaledBelow n (run scaled rounds k).state

bounded_by : (n : ℕ) (rounds : List (List F)) (k : ℕ) → iterations rounds k < n → Bounded n rounds k
bounded_by n rounds k h = record {
  in_plain = rw (plain_run rounds k) (record { Λ = Λ-below; B = B-below });
  in_lookahead = rw (lookahead-run rounds k) (record {
    Λ = Λ-below;
    B = B-below;
    Δ = ahead-below n _ _ _ Λ-below;
    Θ = ahead-below n _ _ _ B-below;
  });
  in_scaled = rw (scaled_run rounds k) (record {
    Λ = below-K-⊠ n _ _ Λ-below;
    B = below-K-⊠ n _ _ B-below;
    Δ = below-K-⊠ n _ _ (ahead-below n _ _ _ Λ-below);
    Θ = below-K-⊠ n _ _ (ahead-below n _ _ _ B-below);
  });
}
  where
    Λ-below : below n (m rounds k).Λ
    Λ-below = below_weaken _ n _ (measure-below (entry (joined rounds)) (iterations rounds k)).0 h

    B-below : below n (m rounds k).B
    B-below = below_weaken _ n _ (measure-below (entry (joined rounds)) (iterations rounds k)).1 h

-- FORMAT 8.3: no run needs more than 49 coefficients; the one place where the number counts
pub fits : (rounds : List (List F)) → length (joined rounds) ≤ 48 → (k : ℕ) → Bounded 49 rounds k
fits rounds h k = bounded_by 49 rounds k (omega (arith, iterations_le rounds k))
