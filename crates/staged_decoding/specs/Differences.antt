-- Where two blocks differ, and their sum.
--
-- Proved: subwords and syndromes of a sum (subword-⊞, syndrome-sum-block); the differences of two blocks are the
-- changes of their sum (differences-weight); blocks with the same symbols have none (differences-none). The same bit by
-- bit: bit_differences-weight, bit_differences-none. A pattern's bits are counted symbol by symbol (bit_weight-more),
-- at most eight of each (bit_weight_le). The line by a pattern is a matter of its symbols (line_by_cong), and says the
-- differences (line_by_differs).
use Rattle.std.specs.Prelude.{ℕ, zero, suc, ◌+◌, ◌*◌, ◌≤◌, ◌<◌, ◌≡◌, Bool, not}
use Rattle.std.proofs.Common.{sym, ap, ap₂, ◌∙◌, arith}
use Rattle.std.specs.Int.Bits.{bit_xor, xor_self}
use Rattle.std.specs.Int.Count.{ones}
use Rattle.std.proofs.lemmas.Nat.{ones-le}
use Rattle.field.specs.Field.{𝟎, ◌⊕◌, ◌≟◌, ⊕_self, ⊕-equal, byte, byte_lt, byte-xor, byte-zero}
use Rattle.series.specs.Series.{Series, ◌⊞◌, ⊞-at}
use Rattle.series.specs.Decide.{holds, holds_yes, holds_no}
use Rattle.series.specs.Word.{weight, weight-none, weight_skip, weight-take, weight_cong}
use Rattle.profile.specs.declared.Profile.{Profile}
use Rattle.code.specs.Word.{syndrome}
use Rattle.code.specs.Systematic.{syndrome_cong, syndrome-⊞}
use Rattle.code.specs.Definition.{subword}
use Rattle.staged_decoding.specs.Definition.{count, line_of, bit_weight, line_by, differences, bit_differences}
use Rattle.staged_decoding.specs.Count.{count_yes, count_no, count-zero, none-count}
use Rattle.staged_decoding.specs.Count.{total_cong, total-zero, total-none, total-more, total_le}

-- ---- sums of blocks

pub subword-⊞ : (n : ℕ) (s t : Series) (i q : ℕ) → subword n (s ⊞ t) i q ≡ subword n s i q ⊕ subword n t i q
unfolding subword
subword-⊞ n s t i q = ⊞-at s t _

pub syndrome-sum-block : (f n : ℕ) (s t : Series) (i j : ℕ)
    → syndrome f n (subword n (s ⊞ t) i) j ≡ syndrome f n (subword n s i) j ⊕ syndrome f n (subword n t i) j
syndrome-sum-block f n s t i j =
    syndrome_cong f n _ _ (λ q l. subword-⊞ n s t i q ∙ sym (⊞-at (subword n s i) (subword n t i) q)) j
    ∙ syndrome-⊞ f n (subword n s i) (subword n t i) j

-- ---- differences

abbrev differ? : Series → Series → ℕ → Bool
differ? a b q = not (holds (a q ≟ b q))

count-weight : (n : ℕ) (a b f : Series) → ((q : ℕ) → f q ≡ a q ⊕ b q) → count n (differ? a b) ≡ weight n f
count-weight zero a b f h = count-zero _ ∙ sym (weight-none f)
count-weight (suc n) a b f h = go (count-weight n a b f h) (a n ≟ b n)
  where
    go : count n (differ? a b) ≡ weight n f → Dec (a n ≡ b n) → count (suc n) (differ? a b) ≡ weight (suc n) f
    go ih (yes e) =
        count_no n (differ? a b) (ap not (holds_yes (a n ≟ b n) e)) ∙ ih
        ∙ sym (weight_skip n f (h n ∙ ap (λ t. t ⊕ b n) e ∙ ⊕_self (b n)))
    go ih (no e) =
        count_yes n (differ? a b) (ap not (holds_no (a n ≟ b n) e))
        ∙ ap suc ih
        ∙ sym (weight-take n f (λ z. e (⊕-equal (a n) (b n) (sym (h n) ∙ z))))

pub differences-weight : (p : Profile) (s t : Series) (i : ℕ)
    → differences p s t i ≡ weight p.length (subword p.length (s ⊞ t) i)
unfolding differences
differences-weight p s t i = count-weight p.length _ _ _ (subword-⊞ p.length s t i)

pub differences-none : (p : Profile) (s t : Series) (i : ℕ)
    → ((q : ℕ) → q < p.length → subword p.length s i q ≡ subword p.length t i q) → differences p s t i ≡ 0
unfolding differences
differences-none p s t i h =
    none-count p.length _ (λ q l. ap not (holds_yes (subword p.length s i q ≟ subword p.length t i q) (h q l)))

-- ---- bits

pub ones_none : (k : ℕ) → k ≡ 0 → ones k ≡ 0
ones_none k e = omega (arith, ones-le 0 k (omega arith))

pub bit_weight_cong : (n : ℕ) (f g : Series) → ((q : ℕ) → q < n → f q ≡ g q) → bit_weight n f ≡ bit_weight n g
unfolding bit_weight
bit_weight_cong n f g h = total_cong n _ _ (λ q l. ap (λ x. ones (byte x)) (h q l))

pub bit_weight-zeros : (n : ℕ) (f : Series) → ((q : ℕ) → q < n → f q ≡ 𝟎) → bit_weight n f ≡ 0
unfolding bit_weight
bit_weight-zeros n f h = total-zero n _ (λ q l. ones_none _ (ap byte (h q l) ∙ byte-zero))

pub bit_weight-none : (f : Series) → bit_weight 0 f ≡ 0
unfolding bit_weight
bit_weight-none f = total-none _

pub bit_weight-more : (n : ℕ) (f : Series) → bit_weight (n + 1) f ≡ bit_weight n f + ones (byte (f n))
unfolding bit_weight
bit_weight-more n f = total-more n _

pub bit_weight_le : (n : ℕ) (f : Series) → bit_weight n f ≤ 8 * n
unfolding bit_weight
bit_weight_le n f = total_le n 8 _ (λ q l. ones-le 8 _ (byte_lt (f q)))

pub bit_differences-weight : (p : Profile) (s t : Series) (i : ℕ)
    → bit_differences p s t i ≡ bit_weight p.length (subword p.length (s ⊞ t) i)
unfolding bit_differences bit_weight
bit_differences-weight p s t i = total_cong p.length _ _
    (λ q l. ap ones (sym (ap byte (subword-⊞ p.length s t i q) ∙ byte-xor _ _)))

pub bit_differences-none : (p : Profile) (s t : Series) (i : ℕ)
    → ((q : ℕ) → q < p.length → subword p.length s i q ≡ subword p.length t i q) → bit_differences p s t i ≡ 0
unfolding bit_differences
bit_differences-none p s t i h = total-zero p.length _ (λ q l.
    let x = byte (subword p.length t i q) in
    ones_none _ (ap (λ v. bit_xor (byte v) x) (h q l) ∙ xor_self x))

-- ---- lines

pub line_by_cong : (n r : ℕ) (f g : Series) → ((q : ℕ) → q < n → f q ≡ g q) → line_by n r f ≡ line_by n r g
line_by_cong n r f g h = ap₂ (line_of r) (weight_cong n f g h) (bit_weight_cong n f g h)

pub line_by_differs : (p : Profile) (r : ℕ) (s t : Series) (i : ℕ)
    → line_by p.length r (subword p.length (s ⊞ t) i)
    ≡ line_of r (differences p s t i) (bit_differences p s t i)
line_by_differs p r s t i =
    ap₂ (line_of r) (sym (differences-weight p s t i)) (sym (bit_differences-weight p s t i))
