-- Laws of at most three changes.
--
-- Proved: a word with the changes of three locations that explain its syndromes fits (explained-fits); a word that fits
-- is reached by changes (fits-changes), so that none fits where there are none (answer_missing). Where changes explain
-- the syndromes, the direct formulas have the number of changes for a length, and a locator with their locations as
-- factors; what is found from it explains the syndromes (changes-found).
use Rattle.std.specs.Prelude.{ℕ, zero, suc, ◌≤◌, ◌<◌, ◌≡◌, refl, List, ◌≢◌, length, get_or, set}
use Rattle.std.proofs.Common.{sym, ap, ap₂, ◌∙◌, inl, inr, ⊎_elim}
use Rattle.std.proofs.Math.Path.{fun_ext}
use Rattle.std.proofs.Math.Logic.{if_pos, if_neg, by_cases}
use Rattle.std.proofs.Math.Option.{none, some}
use native.Mathlib.Omega.{arith}
use Rattle.std.proofs.Math.Decide.{ℕ_discrete}
use Rattle.std.specs.Int.Bits.{bit_xor}
use Rattle.field.specs.Field.{F, 𝟎, 𝟏, ◌⊕◌, ◌⊙◌, ◌≟◌, ⊕_self, ⊕-group, ⊕-zero, zero-⊙}
use Rattle.field.specs.Field.{one-⊙, one≢zero, pow, pow-one, pow-suc, log}
use Rattle.field.proofs.Field.{pow-log, log-pow}
use Rattle.field.specs.Field.{of, of_one}
use Rattle.field.proofs.Field.{power_inj, power_nonzero}
use Rattle.series.specs.Series.{Series, O, ◌⊞◌, O-at, ⊞-at, ⊞-group}
use Rattle.series.specs.Shift.{zpow, zpow-one, zpow-other}
use Rattle.series.specs.Value.{value, value-last, value-zero, value-zpow}
use Rattle.series.specs.Word.{word, weight, weight-none, weight_skip, weight-take, weight-O, weight-⊕, zero-weight}
use Rattle.series.specs.Array.{bytes, read-set-same, read-set-other}
use Rattle.code.specs.Word.{root, syndrome}
use Rattle.kernel.specs.Store.{bytes-xor}
use Rattle.code.specs.Systematic.{syndrome-is, syndrome-⊞}
use Rattle.settling.specs.Locator.{X, lead_is, root-power}
use Rattle.binary.specs.Coefficients.{zero-pow}
use Rattle.binary.specs.Definition.{Bits, Fits, answer}
use Rattle.binary.specs.Answer.{bits-sum, code_even, fits-explains, answer-one, answer-never}
use Rattle.binary.specs.Changes.{Within, spike, changed, Explained, Changes}

-- ---- one change

pub spike-none : (x : F) → x ≡ 𝟎 → spike x ≡ O
unfolding spike
spike-none x z = if_pos (x ≟ 𝟎) z _ _

pub spike-some : (x : F) → x ≢ 𝟎 → spike x ≡ zpow (log x)
unfolding spike
spike-some x h = if_neg (x ≟ 𝟎) h _ _

-- a bit of an array changed
pub bytes_flip : (l : List ℕ) (p : ℕ) → p < length l → bytes (set l p (bit_xor (get_or l p 0) 1)) ≡ bytes l ⊞ zpow p
bytes_flip l p h = fun_ext (λ i. go i (ℕ_discrete i p))
  where
    go : (i : ℕ) → Dec (i ≡ p) → bytes (set l p (bit_xor (get_or l p 0) 1)) i ≡ (bytes l ⊞ zpow p) i
    go i (yes e) = rw (e, ⊞-at, zpow-one) (read-set-same of 0 l p _ h ∙ bytes-xor l p 1 ∙ rw of_one)
    go i (no e) = rw (⊞-at, zpow-other p i e, ⊕-zero) (read-set-other of 0 l p i _ e)

-- the power p of root j
location-power : (j p : ℕ) → pow (root 1 j) p ≡ pow (X p) (suc j)
location-power j p = root-power j p ∙ rw lead_is (sym (pow-suc (X p) j))

spike-syndrome : (n : ℕ) (x : F) (j : ℕ) → Within n x → syndrome 1 n (spike x) j ≡ pow x (suc j)
spike-syndrome n x j w = by_cases (x ≟ 𝟎)
    (λ z. syndrome-is 1 n _ j ∙ value-zero n _ _ (λ i l. ap (λ (f : Series). f i) (spike-none x z) ∙ O-at i)
    ∙ sym (pow-suc x j ∙ rw z (zero-⊙ _)))
    (λ h. syndrome-is 1 n _ j ∙ ap (λ (f : Series). value n f (root 1 j)) (spike-some x h)
    ∙ value-zpow (log x) n (root 1 j) (w h)
    ∙ location-power j (log x) ∙ ap (λ (a : F). pow a (suc j)) (pow-log x h))

zpow-bits : (n p : ℕ) → Bits n (zpow p)
zpow-bits n p q l = by_cases (ℕ_discrete q p) (λ e. inr (rw e (zpow-one p))) (λ e. inl (zpow-other p q e))

spike-bits : (n : ℕ) (x : F) → Bits n (spike x)
spike-bits n x q l = by_cases (x ≟ 𝟎) (λ z. rw (spike-none x z) (inl (O-at q)))
    (λ h. rw (spike-some x h) (zpow-bits n (log x) q l))

zpow_light : (n p : ℕ) → (weight n (zpow p) ≤ 1) × (n ≤ p → weight n (zpow p) ≡ 0)
zpow_light zero p = (omega (arith, weight-none (zpow p)), λ l. weight-none (zpow p))
zpow_light (suc n) p = go (zpow_light n p) (ℕ_discrete n p)
  where
    go : (weight n (zpow p) ≤ 1) × (n ≤ p → weight n (zpow p) ≡ 0) → Dec (n ≡ p)
        → (weight (suc n) (zpow p) ≤ 1) × (suc n ≤ p → weight (suc n) (zpow p) ≡ 0)
    go (a, b) (yes e) = (
      omega (arith, weight-take n (zpow p) (λ z. one≢zero (sym (rw e (zpow-one p)) ∙ z)), b (omega arith)),
      λ l. absurd (omega arith),
    )
    go (a, b) (no e) =
        let s = weight_skip n (zpow p) (zpow-other p n e) in (omega (arith, s), λ l. s ∙ b (omega arith))

spike_light : (n : ℕ) (x : F) → weight n (spike x) ≤ 1
spike_light n x = by_cases (x ≟ 𝟎) (λ z. rw (spike-none x z) (omega (arith, weight-O n)))
    (λ h. rw (spike-some x h) (zpow_light n (log x)).0)

-- ---- three of them

module _ (n : ℕ) (y : Series) (hn : n ≤ 255) (b : Bits n y) (x1 x2 x3 : F)
    (e : Explained n (syndrome 1 n y 0) (syndrome 1 n y 2) (syndrome 1 n y 4) x1 x2 x3) where
  abbrev w : Series
  w = changed y x1 x2 x3

  changed-bits : Bits n w
  changed-bits =
      bits-sum n _ _ (bits-sum n _ _ (bits-sum n y _ b (spike-bits n x1)) (spike-bits n x2)) (spike-bits n x3)

  changed-syndrome : (j : ℕ) → syndrome 1 n w j
      ≡ syndrome 1 n y j ⊕ (pow x1 (suc j) ⊕ (pow x2 (suc j) ⊕ pow x3 (suc j)))
  changed-syndrome j =
      syndrome-⊞ 1 n _ _ j
      ∙ ap₂ ◌⊕◌ (syndrome-⊞ 1 n _ _ j
      ∙ ap₂ ◌⊕◌ (syndrome-⊞ 1 n y _ j ∙ ap (λ t. syndrome 1 n y j ⊕ t) (spike-syndrome n x1 j e.within_x))
      (spike-syndrome n x2 j e.within_y))
      (spike-syndrome n x3 j e.within_z)
      ∙ simp ⊕-group

  vanishes : (j : ℕ) → pow x1 (suc j) ⊕ (pow x2 (suc j) ⊕ pow x3 (suc j)) ≡ syndrome 1 n y j
      → syndrome 1 n w j ≡ 𝟎
  vanishes j h = changed-syndrome j ∙ rw h (⊕_self _)

  near : weight n (w ⊞ y) ≤ 3
  unfolding ◌⊞◌
  near =
      let s : w ⊞ y ≡ spike x1 ⊞ (spike x2 ⊞ spike x3) = simp ⊞-group in
      rw s (omega (
        arith,
        weight-⊕ n (spike x1) (spike x2 ⊞ spike x3),
        weight-⊕ n (spike x2) (spike x3),
        spike_light n x1,
        spike_light n x2,
        spike_light n x3,
      ))

  pub explained-fits : Fits n y w
  explained-fits = record {
    bits = changed-bits;
    near = near;
    code = code_even n w changed-bits
        (vanishes 0 (ap₂ ◌⊕◌ (pow-one x1) (ap₂ ◌⊕◌ (pow-one x2) (pow-one x3)) ∙ e.first))
        (vanishes 2 e.third) (vanishes 4 e.fifth);
  }

  pub answer-found : answer n y ≡ some (word n w)
  answer-found = answer-one n y hn w explained-fits

-- ---- the changes of a word that fits

-- the last change of a pattern of bits
record Last (n k : ℕ) (e : Series) : Type 0 where
  at : ℕ
  below : at < n
  fewer : weight at e ≡ k
  power : (j : ℕ) → syndrome 1 n e j ≡ syndrome 1 at e j ⊕ pow (X at) (suc j)

last-change : (n k : ℕ) (e : Series) → Bits n e → weight n e ≡ suc k → Last n k e
last-change zero k e b h = absurd (omega (arith, weight-none e))
last-change (suc n) k e b h = go (last-change n k e (λ p q. b p (omega arith))) (e n ≟ 𝟎)
  where
    next : (j : ℕ) → syndrome 1 (suc n) e j ≡ syndrome 1 n e j ⊕ e n ⊙ pow (X n) (suc j)
    next j =
        syndrome-is 1 (suc n) e j ∙ value-last n e (root 1 j)
        ∙ ap₂ (λ a c. a ⊕ e n ⊙ c) (sym (syndrome-is 1 n e j)) (location-power j n)

    go : (weight n e ≡ suc k → Last n k e) → Dec (e n ≡ 𝟎) → Last (suc n) k e
    go before (yes z) =
        let l = before (sym (weight_skip n e z) ∙ h) in
        record {
          at = l.at;
          below = omega (arith, l.below);
          fewer = l.fewer;
          power = λ j. next j ∙ rw z (ap (λ t. syndrome 1 n e j ⊕ t) (zero-⊙ _) ∙ ⊕-zero _) ∙ l.power j;
        }
    go before (no z) = record {
      at = n;
      below = omega arith;
      fewer = let s = weight-take n e z in omega (arith, s);
      power = λ j. next j ∙ ap (λ t. syndrome 1 n e j ⊕ t) (ap (λ a. a ⊙ pow (X n) (suc j)) one_at ∙ one-⊙ _);
    }
      where
        one_at : e n ≡ 𝟏
        one_at = ⊎_elim (λ y. absurd (z y)) (λ y. y) (b n (omega arith))

-- the locations of positions below n
X-within : (n p : ℕ) → n ≤ 255 → p < n → Within n (X p)
X-within n p hn l h = let e = log-pow p (omega arith) in omega (arith, e)

X_apart : (p q : ℕ) → p < q → q < 255 → X q ≢ X p
X_apart p q l h e = let s : q ≡ p = power_inj q p (omega arith) (omega arith) e in omega arith

zero-within : (n : ℕ) → Within n 𝟎
zero-within n h = absurd (h refl)

none_left : (n : ℕ) (e : Series) (j : ℕ) → weight n e ≡ 0 → syndrome 1 n e j ≡ 𝟎
none_left n e j h = syndrome-is 1 n e j ∙ value-zero n e _ (zero-weight n e h)

module _ (n : ℕ) (e : Series) (hn : n ≤ 255) (b : Bits n e) where
  abbrev S : ℕ → F
  S = syndrome 1 n e

  explained_by : (x y z : F) → Within n x → Within n y → Within n z
      → ((j : ℕ) → S j ≡ pow x (suc j) ⊕ (pow y (suc j) ⊕ pow z (suc j))) → Explained n (S 0) (S 2) (S 4) x y z
  explained_by x y z wx wy wz h = record {
    within_x = wx;
    within_y = wy;
    within_z = wz;
    first = sym (h 0 ∙ ap₂ ◌⊕◌ (pow-one x) (ap₂ ◌⊕◌ (pow-one y) (pow-one z)));
    third = sym (h 2);
    fifth = sym (h 4);
  }

  bits_below : (p : ℕ) → p < n → Bits p e
  bits_below p l q m = b q (omega arith)

  pub weight-changes : (k : ℕ) → weight n e ≡ k → k ≤ 3 → Changes n (S 0) (S 2) (S 4)
  weight-changes zero h l = Changes.none (none_left n e 0 h) (none_left n e 2 h) (none_left n e 4 h)
  weight-changes (suc zero) h l =
      let f = last-change n 0 e b h in
      Changes.one (X f.at) (power_nonzero _)
      (explained_by _ 𝟎 𝟎 (X-within n _ hn f.below) (zero-within n) (zero-within n)
      (λ j. f.power j ∙ rw (none_left _ e j f.fewer, zero-pow (suc j) (omega arith)) (simp ⊕-group)))
  weight-changes (suc (suc zero)) h l =
      let f = last-change n 1 e b h in
      let g = last-change f.at 0 e (bits_below _ f.below) f.fewer in
      Changes.two (X f.at) (X g.at) (power_nonzero _) (power_nonzero _)
      (X_apart _ _ g.below (omega (arith, f.below)))
      (explained_by _ _ 𝟎 (X-within n _ hn f.below) (X-within n _ hn (omega (arith, f.below, g.below)))
      (zero-within n)
      (λ j. f.power j ∙ rw (g.power j, none_left _ e j g.fewer, zero-pow (suc j) (omega arith)) (simp ⊕-group)))
  weight-changes (suc (suc (suc zero))) h l =
      let f = last-change n 2 e b h in
      let g = last-change f.at 1 e (bits_below _ f.below) f.fewer in
      let i = last-change g.at 0 e (bits_below _ (omega (arith, f.below, g.below))) g.fewer in
      Changes.three (X f.at) (X g.at) (X i.at) (power_nonzero _) (power_nonzero _) (power_nonzero _)
      (X_apart _ _ g.below (omega (arith, f.below)))
      (X_apart _ _ (omega (arith, g.below, i.below)) (omega (arith, f.below)))
      (X_apart _ _ i.below (omega (arith, f.below, g.below)))
      (explained_by _ _ _ (X-within n _ hn f.below) (X-within n _ hn (omega (arith, f.below, g.below)))
      (X-within n _ hn (omega (arith, f.below, g.below, i.below)))
      (λ j. f.power j ∙ rw (g.power j, i.power j, none_left _ e j i.fewer) (simp ⊕-group)))
  weight-changes (suc (suc (suc (suc k)))) h l = absurd (omega arith)

module _ (n : ℕ) (y : Series) (hn : n ≤ 255) (b : Bits n y) where
  pub fits-changes : (w : Series) → Fits n y w → Changes n (syndrome 1 n y 0) (syndrome 1 n y 2) (syndrome 1 n y 4)
  fits-changes w x =
      let e = fits-explains n y w x in
      rw (← (e.syndromes 0 (omega arith)), ← (e.syndromes 2 (omega arith)), ← (e.syndromes 4 (omega arith)))
      (weight-changes n (w ⊞ y) hn (bits-sum n w y x.bits b) (weight n (w ⊞ y)) refl x.near)

  pub answer_missing : ¬ Changes n (syndrome 1 n y 0) (syndrome 1 n y 2) (syndrome 1 n y 4) → answer n y ≡ none
  answer_missing h = answer-never n y hn (λ w x. h (fits-changes w x))
