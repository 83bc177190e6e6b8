-- Laws of what is answered to a binary subword.
--
--   Conjugate s     s_1 = s_0², s_3 = s_1², s_5 = s_2²
--   added n y o     y with a pattern added, if there is one
--
-- Proved, for a subword y of at most 255 bits: the syndromes of binary words are conjugate (syndromes_conjugate), so
-- that three of six tell of all (code_even); at most one word fits (fits_unique), so that a word that fits is the
-- answer (answer-one), and none is where none fits (answer-never). The answer is y with the pattern that settles y's
-- syndromes with capability 3 (answer-settle): what explains conjugate syndromes is binary by itself (explains-bits).
use Rattle.std.specs.Prelude.{ℕ, zero, suc, ◌+◌, ◌≤◌, ◌<◌, ◌≡◌, refl, List}
use Rattle.std.proofs.Math.Path.{sym}
use Rattle.std.proofs.Common.{ap, ap₂, ◌∙◌, inl, inr, ⊎_elim, arith}
use Rattle.std.proofs.Math.Logic.{by_cases}
use Rattle.std.proofs.Math.Option.{Option, none, some}
use Rattle.field.specs.Field.{F, 𝟎, 𝟏, α, ◌⊕◌, ◌⊙◌, ◌≟◌, ⊕_self, ⊕-equal, ⊕-group, zero-⊕, zero-⊙, ⊙-one}
use Rattle.field.specs.Field.{⊙-ring, pow, pow-one, pow-add, pow-⊙}
use Rattle.field.proofs.Field.{⊙-factor, ⊙_nonzero}
use Rattle.series.specs.Series.{Series, ◌⊞◌, ⊞-at, ⊞-group}
use Rattle.series.specs.Value.{value, value_none, value-last}
use Rattle.series.specs.Word.{entry, word, weight, length-word, entry-word, word_ext, weight_cong, weight-none}
use Rattle.series.specs.Word.{weight_skip, weight-take}
use Rattle.series.specs.First.{first-never, first_one}
use Rattle.code.specs.Word.{root, syndrome, InCode}
use Rattle.code.specs.Systematic.{syndrome-is, syndrome_cong, syndrome-⊞}
use Rattle.settling.specs.Definition.{Explains, settle}
use Rattle.settling.specs.Settle.{distance, explains_unique, settle-some, settle-none}
use Rattle.binary.specs.Coefficients.{zero-pow, pow_cycle}
use Rattle.binary.specs.Definition.{Bit, Bits, Fits, answer}

-- ---- bits

bit-square : (x : F) → Bit x → x ⊙ x ≡ x
bit-square x = ⊎_elim (λ z. rw z (zero-⊙ 𝟎)) (λ e. rw e (⊙-one 𝟏))

square-bit : (x : F) → x ⊙ x ≡ x → Bit x
square-bit x e = by_cases (x ≟ 𝟎) inl (λ h.
    let z : x ⊙ (x ⊕ 𝟏) ≡ 𝟎 = simp (⊙-ring, e) in
    inr (⊕-equal _ _ (⊙-factor x (x ⊕ 𝟏) h z)))

pub bit-sum : (x y : F) → Bit x → Bit y → Bit (x ⊕ y)
bit-sum x y a b =
    square-bit _ (shape ∙ ap₂ ◌⊕◌ (bit-square x a) (bit-square y b))
  where
    shape : (x ⊕ y) ⊙ (x ⊕ y) ≡ x ⊙ x ⊕ y ⊙ y
    shape = simp ⊙-ring

pub bits-sum : (n : ℕ) (f g : Series) → Bits n f → Bits n g → Bits n (f ⊞ g)
bits-sum n f g a b p l = rw ⊞-at (bit-sum _ _ (a p l) (b p l))

-- ---- squares of syndromes

pub record Conjugate (s : Series) : Type 0 where
  pub one : s 1 ≡ s 0 ⊙ s 0
  pub three : s 3 ≡ s 1 ⊙ s 1
  pub five : s 5 ≡ s 2 ⊙ s 2

abbrev squared : Series → Series
squared f p = f p ⊙ f p

value-square : (n : ℕ) (f : Series) (x : F) → value n (squared f) (x ⊙ x) ≡ value n f x ⊙ value n f x
value-square zero f x = value_none _ _ ∙ sym (ap₂ ◌⊙◌ (value_none f x) (value_none f x) ∙ zero-⊙ 𝟎)
value-square (suc n) f x =
    value-last n (squared f) (x ⊙ x)
    ∙ rw (value-square n f x, pow-⊙, value-last n f x) (simp ⊙-ring)

root-square : (j : ℕ) → root 1 (j + j + 1) ≡ root 1 j ⊙ root 1 j
unfolding root
root-square j = let e : 1 + (j + j + 1) ≡ 1 + j + (1 + j) = omega arith in ap (pow α) e ∙ pow-add α (1 + j) (1 + j)

syndrome-square : (n : ℕ) (f : Series) (j : ℕ)
    → syndrome 1 n (squared f) (j + j + 1) ≡ syndrome 1 n f j ⊙ syndrome 1 n f j
syndrome-square n f j =
    syndrome-is 1 n (squared f) (j + j + 1)
    ∙ ap (value n (squared f)) (root-square j)
    ∙ value-square n f (root 1 j)
    ∙ sym (ap₂ ◌⊙◌ (syndrome-is 1 n f j) (syndrome-is 1 n f j))

pub syndromes_conjugate : (n : ℕ) (y : Series) → Bits n y → Conjugate (syndrome 1 n y)
syndromes_conjugate n y b = record { one = at 0; three = at 1; five = at 2 }
  where
    at : (j : ℕ) → syndrome 1 n y (j + j + 1) ≡ syndrome 1 n y j ⊙ syndrome 1 n y j
    at j =
        syndrome_cong 1 n y (squared y) (λ p l. sym (bit-square (y p) (b p l))) (j + j + 1) ∙ syndrome-square n y j

pub code_even : (n : ℕ) (y : Series) → Bits n y
    → syndrome 1 n y 0 ≡ 𝟎 → syndrome 1 n y 2 ≡ 𝟎 → syndrome 1 n y 4 ≡ 𝟎 → InCode 1 n 3 y
code_even n y b z0 z2 z4 = six
  where
    c : Conjugate (syndrome 1 n y)
    c = syndromes_conjugate n y b

    z1 : syndrome 1 n y 1 ≡ 𝟎
    z1 = c.one ∙ rw z0 (zero-⊙ 𝟎)

    six : InCode 1 n 3 y
    six zero l = z0
    six (suc zero) l = z1
    six (suc (suc zero)) l = z2
    six (suc (suc (suc zero))) l = c.three ∙ rw z1 (zero-⊙ 𝟎)
    six (suc (suc (suc (suc zero)))) l = z4
    six (suc (suc (suc (suc (suc zero))))) l = c.five ∙ rw z2 (zero-⊙ 𝟎)
    six (suc (suc (suc (suc (suc (suc j)))))) l = absurd (omega arith)

-- ---- what explains conjugate syndromes

sqrt : F → F
sqrt x = pow x 128

sqrt-square : (x : F) → sqrt x ⊙ sqrt x ≡ x
unfolding sqrt
sqrt-square x = sym (pow-add x 128 128) ∙ pow_cycle x 0 ∙ pow-one x

module _ (n : ℕ) (s e : Series) (hn : n ≤ 255) (c : Conjugate s) (x : Explains 1 3 n s e) where
  -- the root of e + e²: zero where e is, and with three zero syndromes
  g : Series
  g p = sqrt (e p ⊕ e p ⊙ e p)

  g-square : (p : ℕ) → g p ⊙ g p ≡ e p ⊕ e p ⊙ e p
  unfolding g
  g-square p = sqrt-square _

  g-zero : (p : ℕ) → e p ≡ 𝟎 → g p ≡ 𝟎
  unfolding g sqrt
  g-zero p z = rw (z, zero-⊙, ⊕_self) (zero-pow 128 (omega arith))

  few : (k : ℕ) → weight k g ≤ weight k e
  few zero = omega (arith, weight-none g, weight-none e)
  few (suc k) = by_cases (e k ≟ 𝟎)
      (λ z. omega (arith, weight_skip k e z, weight_skip k g (g-zero k z), few k))
      (λ z. by_cases (g k ≟ 𝟎)
      (λ y. omega (arith, weight-take k e z, weight_skip k g y, few k))
      (λ y. omega (arith, weight-take k e z, weight-take k g y, few k)))

  conjugate : (j : ℕ) → j < 3 → s (j + j + 1) ≡ s j ⊙ s j
  conjugate zero l = c.one
  conjugate (suc zero) l = c.three
  conjugate (suc (suc zero)) l = c.five
  conjugate (suc (suc (suc j))) l = absurd (omega arith)

  zero-syndrome : (j : ℕ) → j < 3 → syndrome 1 n g j ≡ 𝟎
  zero-syndrome j l = by_cases (syndrome 1 n g j ≟ 𝟎) (λ z. z) (λ z. absurd (⊙_nonzero _ _ z z
      (sym (syndrome-square n g j)
      ∙ syndrome_cong 1 n (squared g) (e ⊞ squared e) (λ p m. g-square p ∙ sym (⊞-at e (squared e) p)) (j + j + 1)
      ∙ syndrome-⊞ 1 n e (squared e) (j + j + 1)
      ∙ ap₂ ◌⊕◌ (x.syndromes (j + j + 1) (omega arith) ∙ conjugate j l)
      (syndrome-square n e j ∙ ap₂ ◌⊙◌ (x.syndromes j (omega arith)) (x.syndromes j (omega arith)))
      ∙ ⊕_self _)))

  pub explains-bits : Bits n e
  explains-bits p l = square-bit _ (sym (⊕-equal _ _ (sym (g-square p) ∙ ap₂ ◌⊙◌ none-at none-at ∙ zero-⊙ 𝟎)))
    where
      none-at : g p ≡ 𝟎
      none-at = distance 1 3 n g hn (omega (arith, few n, x.within)) zero-syndrome p l

-- ---- what fits

pub fits-explains : (n : ℕ) (y w : Series) → Fits n y w → Explains 1 3 n (syndrome 1 n y) (w ⊞ y)
fits-explains n y w x = record {
  within = x.near;
  syndromes = λ j l. syndrome-⊞ 1 n w y j ∙ rw (x.code j l) (zero-⊕ _);
}

fits_cong : (n : ℕ) (y v w : Series) → ((p : ℕ) → p < n → v p ≡ w p) → Fits n y v → Fits n y w
fits_cong n y v w same x = record {
  bits = λ p l. rw (← (same p l)) (x.bits p l);
  near = rw (← (weight_cong n (v ⊞ y) (w ⊞ y)
      (λ p l. ⊞-at v y p ∙ ap (λ t. t ⊕ y p) (same p l) ∙ sym (⊞-at w y p)))) x.near;
  code = λ j l. sym (syndrome_cong 1 n v w same j) ∙ x.code j l;
}

module _ (n : ℕ) (y : Series) (hn : n ≤ 255) where
  pub fits_unique : (v w : Series) → Fits n y v → Fits n y w → (p : ℕ) → p < n → v p ≡ w p
  fits_unique v w x z p l =
      let e : v p ⊕ y p ≡ w p ⊕ y p =
      sym (⊞-at v y p)
      ∙ explains_unique 1 3 n (syndrome 1 n y) _ _ hn (fits-explains n y v x) (fits-explains n y w z) p l
      ∙ ⊞-at w y p in
      let s : v p ≡ v p ⊕ y p ⊕ y p = simp ⊕-group in
      s ∙ ap (λ t. t ⊕ y p) e ∙ simp ⊕-group

  pub answer-one : (w : Series) → Fits n y w → answer n y ≡ some (word n w)
  unfolding answer
  answer-one w x =
      let z : Fits n y (entry (word n w)) = fits_cong n y w _ (λ p l. sym (entry-word n w p l)) x in
      first_one n _ (word n w) (length-word n w) z
      (λ v l u. word_ext n v _ l (length-word n w) (fits_unique _ _ u z))

  pub answer-never : ((w : Series) → ¬ Fits n y w) → answer n y ≡ none
  unfolding answer
  answer-never h = first-never n _ (λ w l. h (entry w))

  -- ---- what settles

  abbrev added : Option (List F) → Option (List F)
  added none = none
  added (some e) = some (word n (y ⊞ entry e))

  pub answer-settle : Bits n y → answer n y ≡ added (settle 1 3 n (syndrome 1 n y))
  answer-settle b = go (settle 1 3 n (syndrome 1 n y)) refl
    where
      fits-of : (e : Series) → Explains 1 3 n (syndrome 1 n y) e → Fits n y (y ⊞ e)
      fits-of e x = record {
        bits = bits-sum n y e b (explains-bits n (syndrome 1 n y) e hn (syndromes_conjugate n y b) x);
        near = let s : y ⊞ e ⊞ y ≡ e = simp ⊞-group in rw s x.within;
        code = λ j l. syndrome-⊞ 1 n y e j ∙ rw (x.syndromes j l) (⊕_self _);
      }

      go : (o : Option (List F)) → settle 1 3 n (syndrome 1 n y) ≡ o → answer n y ≡ added o
      go none h = answer-never (λ w x. settle-none 1 3 n (syndrome 1 n y) _ h (fits-explains n y w x))
      go (some e) h = answer-one _ (fits-of (entry e) (settle-some 1 3 n (syndrome 1 n y) e h).1)
