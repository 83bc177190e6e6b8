-- Thirty-two syndromes at a time, by Horner's rule on all of them at once.
--
--   Lanes n w x i v      the array v of 32 symbols holds the values of the word w of n symbols at the points that the
--                        array x holds from its entry i on
--   Horner n w x i p v   the same of the symbols from p on
--
-- Proved: a loop over the symbols, the last first, begins by lanes-none, goes on by lanes-more and ends with the
-- values (lanes_all), which are syndromes if the points are roots (lanes-syndrome). An array holds the roots from α on
-- by one test of the table of powers (roots); those from another one on are these times a power of α (roots-times).
use Rattle.std.specs.Prelude.{ℕ, ◌+◌, ◌-◌, ◌%◌, ◌≤◌, ◌<◌, ◌≡◌, Bool, List, T, eqb, length, get_or}
use Rattle.std.proofs.Common.{sym, ap, ap₂, ◌∙◌, arith, eqb→eq}
use Rattle.std.proofs.Math.Nat.{sub-zero}
use Rattle.field.specs.Field.{F, α, ◌⊕◌, ◌⊙◌, ⊙_comm, one-⊙, pow, pow-add}
use Rattle.field.proofs.Field.{power_255, power_mod}
use Rattle.field.specs.Field.{of, of-byte, of_zero, power_table}
use Rattle.field.proofs.Field.{power_table-at}
use Rattle.field.specs.Test.{all, all-at}
use Rattle.series.specs.Series.{Series, K, ◌⊠◌, K-⊠-at}
use Rattle.series.specs.Shift.{drop, cut, cut_low, cut_high, cut_unique, cut-K-⊠, drop-none}
use Rattle.series.specs.Value.{value, value_none, value-horner}
use Rattle.series.specs.Array.{bytes, read_at, below-read}
use Rattle.kernel.specs.Store.{cut_cong}
use Rattle.code.specs.Word.{root, syndrome}
use Rattle.code.specs.Systematic.{syndrome-is}

unfoldable pub roots? : List ℕ → List ℕ → Bool
roots? t l = all 64 (λ i. eqb (get_or l i 0) (get_or t (1 + i) 0))

pub roots : (l : List ℕ) → length l ≡ 64 → T (roots? power_table l) → bytes l ≡ cut 64 (root 1)
unfolding roots? root
roots l long t =
    sym (cut_unique 64 (root 1) (bytes l) (λ i h. sym (entry i h)) (λ i h. below-read of 0 of_zero l i (omega arith)))
  where
    entry : (i : ℕ) → i < 64 → bytes l i ≡ root 1 i
    entry i h =
        read_at of 0 l i
        ∙ ap of (eqb→eq _ _ (all-at 64 _ t i h) ∙ power_table-at (1 + i) (omega arith))
        ∙ of-byte _

pub roots-times : (first : ℕ) → K (pow α (first % 255 + 254)) ⊠ cut 64 (root 1) ≡ cut 64 (root first)
unfolding root
roots-times first = sym (cut-K-⊠ 64 _ (root 1)) ∙ cut_cong 64 _ _ (λ j _. K-⊠-at _ (root 1) j ∙ entry j)
  where
    entry : (j : ℕ) → pow α (first % 255 + 254) ⊙ pow α (1 + j) ≡ pow α (first + j)
    entry j =
        let e : first % 255 + 254 + (1 + j) ≡ 255 + (first % 255 + j) = omega arith in
        sym (pow-add α (first % 255 + 254) (1 + j))
        ∙ ap (pow α) e
        ∙ rw (pow-add α 255, pow-add α (first % 255) j, pow-add α first j, power_255, power_mod) (one-⊙ _)

pub record Lanes (n : ℕ) (w : Series) (x : List ℕ) (i : ℕ) (v : List ℕ) : Type 0 where
  pub at : (j : ℕ) → j < 32 → bytes v j ≡ value n w (bytes x (i + j))

abbrev pub Horner : ℕ → Series → List ℕ → ℕ → ℕ → List ℕ → Type 0
Horner n w x i p v = (j : ℕ) → j < 32 → bytes v j ≡ value (n - p) (drop p w) (bytes x (i + j))

pub lanes-none : (n : ℕ) (w : Series) (x : List ℕ) (i : ℕ) (v : List ℕ) → bytes v ≡ cut 0 w → Horner n w x i n v
lanes-none n w x i v z j h =
    let e : n - n ≡ 0 = omega arith in
    ap (λ (f : Series). f j) z ∙ cut_high 0 w j (omega arith)
    ∙ sym (ap (λ (m : ℕ). value m (drop n w) (bytes x (i + j))) e ∙ value_none _ _)

pub lanes-more : (n : ℕ) (w : Series) (x : List ℕ) (i p : ℕ) (v u : List ℕ) (s : F)
    → 0 < p → p ≤ n → Horner n w x i p v → s ≡ w (p - 1)
    → bytes u ≡ cut 32 (λ j. bytes v j ⊙ bytes x (i + j) ⊕ s) → Horner n w x i (p - 1) u
lanes-more n w x i p v u s h l e q o j b =
    ap (λ (f : Series). f j) o
    ∙ cut_low 32 _ j b
    ∙ ap₂ ◌⊕◌ (⊙_comm _ _ ∙ ap (λ (a : F). bytes x (i + j) ⊙ a) (e j b)) q
    ∙ sym (value-horner n w (bytes x (i + j)) p h l)

pub lanes_all : (n : ℕ) (w : Series) (x : List ℕ) (i : ℕ) (v : List ℕ) → Horner n w x i 0 v → Lanes n w x i v
lanes_all n w x i v e = record { at = λ j h. rw (drop-none, sub-zero) at (e j h) }

pub lanes-syndrome : (first n : ℕ) (w : Series) (x : List ℕ) (i : ℕ) (v : List ℕ) (j : ℕ)
    → bytes x ≡ cut 64 (root first) → Lanes n w x i v → j < 32 → i + j < 64 → bytes v j ≡ syndrome first n w (i + j)
lanes-syndrome first n w x i v j r e h small =
    e.at j h
    ∙ ap (value n w) (ap (λ (f : Series). f (i + j)) r ∙ cut_low 64 (root first) (i + j) small)
    ∙ sym (syndrome-is first n w (i + j))
