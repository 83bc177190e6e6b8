-- Laws of settling.
--
-- Proved: a word with k zero syndromes and at most k symbols that are not zero is zero (distance), so at most one
-- pattern explains a row of syndromes (explains_unique). What is settled explains (settle-some); nothing is settled
-- where nothing explains (settle-never), and only there (settle-none); a pattern that explains is what is settled
-- (settle-one), so settling is to put a candidate to the test, if the candidate is right wherever some pattern explains
-- (settle_test). Only the first 2t syndromes count (settle_cong); a row of zeros is settled by the empty pattern
-- (settle-zero). All of it holds with any first root; what settles with the first root α^f is what does with the first
-- root α, each change times its location to the power 1 − f (settle-untwisted).
use Rattle.std.specs.Prelude.{ℕ, suc, ◌*◌, ◌≤◌, ◌<◌, ◌≡◌, refl, ◌≢◌, List, length}
use Rattle.std.proofs.Common.{sym, ap, ◌∙◌, arith}
use Rattle.std.proofs.Math.Logic.{ite, by_cases}
use Rattle.std.proofs.Math.Option.{Option, none, some}
use Rattle.std.proofs.Math.Decide.{dec_le}
use Rattle.field.specs.Field.{F, 𝟎, ◌≟◌, ⊕_self, ⊕-equal}
use Rattle.series.specs.Series.{Series, O, ◌⊞◌, O-at, ⊠-zero, ⊠-agree}
use Rattle.series.specs.Value.{value, value-zero}
use Rattle.series.specs.Word.{entry, word, weight, length-word, entry-word, word_ext, weight_cong, weight-O, weight-⊕}
use Rattle.series.specs.First.{first_some, first-none, first-never, first_one, first_cong}
use Rattle.code.specs.Word.{root, syndrome}
use Rattle.code.specs.Systematic.{syndrome-is, syndrome_cong, syndrome-⊞}
use Rattle.settling.specs.Definition.{Explains, explains?, settle}
use Rattle.settling.specs.Locator.{W, locator, evaluator, key, below-evaluator, evaluator_nonzero}
use Rattle.settling.specs.Twist.{twist, untwist, untwisted, twist-zero, twist-untwist, weight-twist}
use Rattle.settling.specs.Twist.{weight-untwist, syndrome-twist}

-- ---- at most one pattern explains

distance-one : (k n : ℕ) (e : Series) → n ≤ 255 → weight n e ≤ k → ((j : ℕ) → j < k → syndrome 1 n e j ≡ 𝟎)
    → (p : ℕ) → p < n → e p ≡ 𝟎
distance-one k n e hn hk zeros p l =
    by_cases (e p ≟ 𝟎) (λ z. z) (λ z. absurd (nonzero z (value-zero _ _ _ (λ i m. none-at i))))
  where
    nonzero : e p ≢ 𝟎 → value (suc (weight n e)) (evaluator n e) (W p) ≢ 𝟎
    nonzero z = evaluator_nonzero e p (suc (weight n e)) (omega arith) n hn l z (omega arith)

    none-at : (i : ℕ) → evaluator n e i ≡ 𝟎
    none-at i = by_cases (dec_le (weight n e) i) (below-evaluator e n i) (λ m.
        ap (λ f. f i) (sym (key e n))
        ∙ ⊠-agree (locator n e) (syndrome 1 n e) O i (λ j h. zeros j (omega arith) ∙ sym (O-at j))
        ∙ ap (λ f. f i) (⊠-zero (locator n e))
        ∙ O-at i)

pub distance : (f k n : ℕ) (e : Series) → n ≤ 255 → weight n e ≤ k → ((j : ℕ) → j < k → syndrome f n e j ≡ 𝟎)
    → (p : ℕ) → p < n → e p ≡ 𝟎
distance f k n e hn hk zeros p l =
    twist-zero f e p (distance-one k n (twist f e) hn (omega (arith, weight-twist f e n))
    (λ j h. syndrome-twist f n e j ∙ zeros j h) p l)

pub explains_unique : (f t n : ℕ) (s e g : Series)
    → n ≤ 255 → Explains f t n s e → Explains f t n s g → (p : ℕ) → p < n → e p ≡ g p
unfolding ◌⊞◌
explains_unique f t n s e g hn x y p l =
    ⊕-equal _ _ (distance f (2 * t) n (e ⊞ g) hn (omega (arith, weight-⊕ n e g, x.within, y.within))
    (λ j h. syndrome-⊞ f n e g j ∙ rw (x.syndromes j h, y.syndromes j h) (⊕_self _)) p l)

-- ---- what explains

-- what stands from position n on does not count
pub explains_cong : (f t n : ℕ) (s e g : Series) → ((p : ℕ) → p < n → e p ≡ g p) → Explains f t n s e
    → Explains f t n s g
explains_cong f t n s e g h x = record {
  within = rw (← (weight_cong n e g h)) x.within;
  syndromes = λ j l. sym (syndrome_cong f n e g h j) ∙ x.syndromes j l;
}

explains-word : (f t n : ℕ) (s e : Series) → Explains f t n s e → Explains f t n s (entry (word n e))
explains-word f t n s e x = explains_cong f t n s e _ (λ p l. sym (entry-word n e p l)) x

-- nor do syndromes from 2t on
explains-row : (f t n : ℕ) (s u e : Series) → ((j : ℕ) → j < 2 * t → s j ≡ u j) → Explains f t n s e
    → Explains f t n u e
explains-row f t n s u e h x = record { within = x.within; syndromes = λ j l. x.syndromes j l ∙ h j l }

-- ---- what settles

pub settle-some : (f t n : ℕ) (s : Series) (w : List F) → settle f t n s ≡ some w
    → (length w ≡ n) × Explains f t n s (entry w)
unfolding settle
settle-some f t n s w e = first_some n _ w e

pub settle-none : (f t n : ℕ) (s e : Series) → settle f t n s ≡ none → ¬ Explains f t n s e
unfolding settle
settle-none f t n s e h x = first-none n _ h (word n e) (length-word n e) (explains-word f t n s e x)

pub settle-never : (f t n : ℕ) (s : Series) → ((e : Series) → ¬ Explains f t n s e) → settle f t n s ≡ none
unfolding settle
settle-never f t n s h = first-never n _ (λ w l. h (entry w))

pub settle-one : (f t n : ℕ) (s e : Series) → n ≤ 255 → Explains f t n s e → settle f t n s ≡ some (word n e)
unfolding settle
settle-one f t n s e hn x =
    let y : Explains f t n s (entry (word n e)) = explains-word f t n s e x in
    first_one n _ (word n e) (length-word n e) y
    (λ v l z. word_ext n v _ l (length-word n e) (explains_unique f t n s _ _ hn z y))

pub settle_test : (f t n : ℕ) (s g : Series) → n ≤ 255
    → ((e : Series) → Explains f t n s e → (p : ℕ) → p < n → g p ≡ e p)
    → settle f t n s ≡ ite (explains? f t n s g) (some (word n g)) none
settle_test f t n s g hn right = go (explains? f t n s g)
  where
    go : (d : Dec (Explains f t n s g)) → settle f t n s ≡ ite d (some (word n g)) none
    go (yes x) = settle-one f t n s g hn x
    go (no h) = settle-never f t n s (λ e x. h (explains_cong f t n s e g (λ p l. sym (right e x p l)) x))

pub settle_cong : (f t n : ℕ) (s u : Series) → ((j : ℕ) → j < 2 * t → s j ≡ u j) → settle f t n s ≡ settle f t n u
unfolding settle
settle_cong f t n s u h =
    first_cong n _ _
    (λ w l. (explains-row f t n s u (entry w) h, explains-row f t n u s (entry w) (λ j m. sym (h j m))))

pub settle-zero : (f t n : ℕ) → n ≤ 255 → settle f t n O ≡ some (word n O)
settle-zero f t n hn = settle-one f t n O O hn (record {
  within = omega (arith, weight-O n);
  syndromes = λ j l. syndrome-is f n O j ∙ value-zero n O (root f j) (λ i m. O-at i) ∙ sym (O-at j);
})

-- ---- with the first root α^f what settles is what does with the first root α, untwisted

explains-twist : (f t n : ℕ) (s e : Series) → Explains f t n s e → Explains 1 t n s (twist f e)
explains-twist f t n s e x = record {
  within = rw weight-twist x.within;
  syndromes = λ j l. syndrome-twist f n e j ∙ x.syndromes j l;
}

pub explains-untwist : (f t n : ℕ) (s e : Series) → Explains 1 t n s e → Explains f t n s (untwist f e)
explains-untwist f t n s e x = record {
  within = rw weight-untwist x.within;
  syndromes = λ j l. sym (syndrome-twist f n (untwist f e) j) ∙ rw (twist-untwist f e) (x.syndromes j l);
}

pub settle-untwisted : (f t n : ℕ) (s : Series) → n ≤ 255 → settle f t n s ≡ untwisted f n (settle 1 t n s)
settle-untwisted f t n s hn = go (settle 1 t n s) refl
  where
    go : (o : Option (List F)) → settle 1 t n s ≡ o → settle f t n s ≡ untwisted f n o
    go none h = settle-never f t n s (λ e x. settle-none 1 t n s _ h (explains-twist f t n s e x))
    go (some w) h = settle-one f t n s _ hn (explains-untwist f t n s (entry w) (settle-some 1 t n s w h).1)
