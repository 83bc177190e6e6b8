-- The odd part of a polynomial as an array of bytes.
--
-- Proved: a loop that fills it with every other coefficient, from coefficient 1 on, keeps `bytes l ≡ cut i (odd f)`, i
-- odd (odds-none, odds-more, odds-all); the value of its first k entries, as they are lent (odds-value).
use Rattle.std.specs.Prelude.{ℕ, ◌+◌, ◌≤◌, ◌<◌, ◌%◌, ◌≡◌, List, length, set, take, replicate}
use Rattle.std.proofs.Common.{sym, ap, ◌∙◌, arith, length-take-le}
use Rattle.std.proofs.Math.Decide.{ℕ_discrete}
use Rattle.field.specs.Field.{F, of, of_zero}
use Rattle.series.specs.Series.{Series}
use Rattle.series.specs.Shift.{cut, cut_low, cut-zero}
use Rattle.series.specs.Value.{value, value_cong, odd, odd_yes, odd_no}
use Rattle.series.specs.Array.{bytes, read-zeros, read_store}
use Rattle.series.specs.Part.{read_take}

pub odds-none : (n : ℕ) (f : Series) → bytes (replicate n 0) ≡ cut 1 (odd f)
odds-none n f = read-zeros of 0 of_zero n (odd f) ∙ sym (cut-zero 0 (odd f) (odd_no f 0 (omega arith)))

pub odds-more : (i x : ℕ) (f : Series) (l : List ℕ) → i % 2 ≡ 1 → i < length l → bytes l ≡ cut i (odd f) → of x ≡ f i
    → bytes (set l i x) ≡ cut (i + 2) (odd f)
odds-more i x f l o h e q =
    let two : i + 1 + 1 ≡ i + 2 = omega arith in
    read_store of 0 l i x (odd f) h e (q ∙ sym (odd_yes f i o))
    ∙ sym (cut-zero (i + 1) (odd f) (odd_no f (i + 1) (omega arith)))
    ∙ ap (λ j. cut j (odd f)) two

pub odds-all : (k i : ℕ) (f : Series) → i % 2 ≡ 1 → k ≤ i → i ≤ k + 1 → cut i (odd f) ≡ cut k (odd f)
odds-all k i f o h l = go (ℕ_discrete i k)
  where
    go : Dec (i ≡ k) → cut i (odd f) ≡ cut k (odd f)
    go (yes e) = ap (λ j. cut j (odd f)) e
    go (no e) =
        let d : i ≡ k + 1 = omega arith in
        ap (λ j. cut j (odd f)) d ∙ cut-zero k (odd f) (odd_no f k (omega arith))

pub odds-value : (k : ℕ) (f : Series) (l : List ℕ) (x : F) → k ≤ length l → bytes l ≡ cut k (odd f)
    → value (length (take k l)) (bytes (take k l)) x ≡ value k (odd f) x
odds-value k f l x h e =
    ap (λ j. value j (bytes (take k l)) x) (length-take-le k l h)
    ∙ value_cong k _ _ x (λ i b. read_take of 0 k l i b ∙ ap (λ (g : Series). g i) e ∙ cut_low k (odd f) i b)
