-- What `settle` promises of its answer.
--
--   answer n r      the answer r: the first n symbols of the pattern that was found, or none
--   Sound f t n s r what r says holds, whatever it came from: the pattern explains s, the first root being α^f; the
--                   count is its number of changes, and there is no change beyond position n - 1
--
-- Proved: each way out of `settle` keeps its promises, for a locator Λ said to have the length L: a length above t
-- (long), a walk that met too few roots (few), a pattern that does not explain (refused), and one that does (found).
-- The part of the numerator that is lent is the whole of it (prefix-is). These are about the first root α; the promises
-- with another first root follow where a pattern is untwisted (untwist-found), or nothing was found (untwist-nothing).
use Rattle.std.specs.Prelude.{ℕ, ◌+◌, ◌-◌, ◌*◌, ◌≤◌, ◌<◌, ◌≡◌, List, length as size, take}
use Rattle.std.specs.Prelude.{Option, Some, None, IfSome}
use Rattle.std.proofs.Common.{sym, ap, ◌∙◌, arith}
use Rattle.std.proofs.Math.Logic.{if_neg, by_cases}
use Rattle.std.proofs.Math.Option as maybe
use Rattle.std.proofs.Math.Option.{none, some}
use Rattle.std.proofs.Math.Decide.{dec_lt}
use Rattle.field.specs.declared.Gf.{Gf}
use Rattle.field.specs.Field.{F, 𝟎, of, of_zero}
use Rattle.series.specs.Series.{Series, ◌⊠◌}
use Rattle.series.specs.Shift.{cut, cut_low, cut_high}
use Rattle.series.specs.Degree.{below, below-cut, below-cut_eq}
use Rattle.series.specs.Array.{values, bytes}
use Rattle.series.specs.Part.{read_prefix}
use Rattle.series.specs.Word.{word, length-word, entry-word, word_ext, weight, weight_cong}
use Rattle.series.specs.Word.{weight_split, zero-weight}
use Rattle.key_equation.specs.Run.{measure}
use Rattle.key_equation.specs.Shortest.{length}
use Rattle.settling.specs.Definition.{Explains, explains?, settle}
use Rattle.settling.specs.Twist.{untwist, untwisted, untwist_cong, weight-untwist}
use Rattle.settling.specs.Settle.{explains_cong, explains-untwist, settle-one, settle_test, settle-untwisted}
use Rattle.settling.specs.Solve.{explained}
use Rattle.settling.specs.Candidate.{candidate-other, hits, hits-root, Multiple, candidate-is}
use Rattle.settling.specs.Candidate.{roots_are, settle-long, settle-roots}
use Rattle.settle.specs.CandidateLocated.{Met, met-below}
use Rattle.settle.specs.declared.Settled.{Settled}

abbrev pub answer : ℕ → Option Settled → maybe.Option (List F)
answer n None = none
answer n (Some r) = some (word n (values r.pattern))

pub record Sound (f t n : ℕ) (s : Series) (r : Settled) : Type 0 where
  pub explains : Explains f t n s (values r.pattern)
  pub count : r.count ≡ weight n (values r.pattern)
  pub within : below n (values r.pattern)

-- both promises
abbrev Promised : (f t n L : ℕ) (s Λ : Series) → Option Settled → Type 0
Promised f t n L s Λ r = record {
  sound : IfSome r (Sound f t n s);
  settled : Multiple Λ (measure s (2 * t)).Λ → L ≡ length s (2 * t) → answer n r ≡ settle f t n s;
}

pub prefix-is : (m : ℕ) (l : List ℕ) (f : Series) → m ≤ size l → bytes l ≡ cut m f → bytes (take m l) ≡ cut m f
prefix-is m l f h e = read_prefix of 0 of_zero m l h ∙ ap (cut m) e ∙ below-cut_eq m (cut m f) (below-cut m f)

module _ (t n L : ℕ) (s Λ : Series) (hn : n ≤ 255) where
  pub long : t < L → Promised 1 t n L s Λ None
  long h = record { sound = tt; settled = λ scaled is. sym (settle-long t n s hn (omega arith)) }

  -- after a walk over k coefficients
  module _ (k : ℕ) (enough : L < k) where
    pub few : weight n (hits k Λ) < L → Promised 1 t n L s Λ None
    few h = record {
      sound = tt;
      settled = λ scaled is.
          sym (settle-roots t n k s Λ hn scaled (omega arith) (λ e. omega (arith, h)));
    }

    module _ (Ω : Series) (pattern : List Gf) (w : Met n k L Λ Ω pattern) where
      -- where the walk met L roots, its pattern is right
      module _ (short : L ≤ t) (Ω-is : Ω ≡ cut L (Λ ⊠ s))
          (scaled : Multiple Λ (measure s (2 * t)).Λ) (is : L ≡ length s (2 * t))
          (e : Series) (x : Explains 1 t n s e) where
        no_more : (p : ℕ) → w.end ≤ p → p < n → hits k Λ p ≡ 𝟎
        no_more p l h =
            let split : n ≡ w.end + (n - w.end) = omega (arith, w.room) in
            let at : w.end + (p - w.end) ≡ p = omega arith in
            let none_left : weight (n - w.end) (λ i. hits k Λ (w.end + i)) ≡ 0 =
            omega (
              arith,
              ap (λ m. weight m (hits k Λ)) split,
              weight_split w.end (n - w.end) (hits k Λ),
              roots_are (2 * t) n k s Λ e hn scaled (omega arith) (explained t n s e hn x),
              w.all,
            ) in
            ap (hits k Λ) (sym at)
            ∙ zero-weight (n - w.end) (λ i. hits k Λ (w.end + i)) none_left (p - w.end) (omega arith)

        right : (p : ℕ) → p < n → values pattern p ≡ e p
        right p h =
            ap (λ (f : Series). f p) w.is
            ∙ by_cases (dec_lt p w.end) (cut_low w.end _ p)
            (λ l. cut_high w.end _ p (omega arith) ∙ sym (candidate-other k Λ Ω p
            (λ root. hits-root k Λ p root (no_more p (omega arith) h))))
            ∙ rw Ω-is (candidate-is (2 * t) n k s Λ e hn scaled (omega arith) (explained t n s e hn x) L
            (omega arith) (omega arith) p h)

      pub refused : L ≤ t → Ω ≡ cut L (Λ ⊠ s) → ¬ Explains 1 t n s (values pattern) → Promised 1 t n L s Λ None
      refused short Ω-is h = record {
        sound = tt;
        settled = λ scaled is. sym (settle_test 1 t n s (values pattern) hn (right short Ω-is scaled is)
            ∙ if_neg (explains? 1 t n s (values pattern)) h _ _);
      }

      -- here the locator does not matter
      pub found : (count : ℕ) → count ≡ weight n (values pattern) → Explains 1 t n s (values pattern)
          → Promised 1 t n L s Λ (Some (record { count = count; pattern = pattern }))
      found count c x = record {
        sound = record { explains = x; count = c; within = met-below w };
        settled = λ scaled is. sym (settle-one 1 t n s _ hn x);
      }

-- ---- any first root

module _ (f t n L : ℕ) (s Λ : Series) (hn : n ≤ 255) where
  pub untwist-nothing : Promised 1 t n L s Λ None → Promised f t n L s Λ None
  untwist-nothing promised = record {
    sound = tt;
    settled = λ scaled is.
        sym (settle-untwisted f t n s hn ∙ ap (untwisted f n) (sym (promised.settled scaled is)));
  }

  -- q is the answer with the pattern of r untwisted
  pub untwist-found : (r q : Settled) → Promised 1 t n L s Λ (Some r) → q.count ≡ r.count
      → values q.pattern ≡ cut n (untwist f (values r.pattern)) → Promised f t n L s Λ (Some q)
  untwist-found r q promised count is = record {
    sound = record {
      explains = explains_cong f t n s _ _ (λ p l. sym (at p l)) (explains-untwist f t n s _ promised.sound.explains);
      count = count ∙ promised.sound.count ∙ sym (weight_cong n _ _ at ∙ weight-untwist f (values r.pattern) n);
      within = rw is (below-cut n _);
    };
    settled = λ scaled same.
        ap some (word_ext n _ _ (length-word n _) (length-word n _) (λ p l. entry-word n _ p l ∙ at p l
        ∙ sym (entry-word n _ p l ∙ untwist_cong f _ _ p (entry-word n (values r.pattern) p l))))
        ∙ sym (settle-untwisted f t n s hn ∙ ap (untwisted f n) (sym (promised.settled scaled same)));
  }
    where
      at : (p : ℕ) → p < n → values q.pattern p ≡ untwist f (values r.pattern) p
      at p l = ap (λ (e : Series). e p) is ∙ cut_low n _ p l
