-- What a pattern does, the first root being α: how many symbols it changes, and its syndromes, change by change; and
-- its test.
--
--   same? m f g   whether f and g agree below m
--
-- Proved: the syndromes of a change y at position p are X p times y, and each next one X p times the one before
-- (change-is); the exponents of these (first-exponent, next-exponent); a loop over the positions goes on by effect-more
-- and count-more; what the test of a pattern looks at (test-long, test-passed, test-failed).
use Rattle.std.specs.Prelude.{ℕ, suc, ◌+◌, ◌*◌, ◌≤◌, ◌<◌, ◌%◌, ◌≡◌, ◌≢◌, true, false, replicate}
use Rattle.std.proofs.Common.{sym, ap, ap₂, ◌∙◌, true≢false, add-one, arith}
use Rattle.std.proofs.Math.Bool.{decide_iff}
use Rattle.std.proofs.Math.Path.{fun_ext}
use Rattle.std.proofs.Math.Logic.{ite}
use Rattle.field.specs.Field.{F, 𝟎, α, ◌⊙◌, ◌≟◌, of, of_zero, log, ⊙-ring, ⊙_comm, pow}
use Rattle.field.specs.Field.{pow-suc, pow-add}
use Rattle.field.proofs.Field.{pow-log, power_mod}
use Rattle.series.specs.Series.{Series, O, K, ◌⊞◌, ◌⊠◌, ⊠-ring, O-at, ⊞-at, K-zero, K-⊠-at}
use Rattle.series.specs.Shift.{cut, cut_low, cut-none, cut_unique, cut-⊞, cut-K-⊠}
use Rattle.series.specs.Value.{value_none, value-last}
use Rattle.series.specs.Array.{bytes, read-zeros}
use Rattle.series.specs.Decide.{holds, holds_yes, all?}
use Rattle.series.specs.Word.{weight}
use Rattle.code.specs.Word.{root, syndrome}
use Rattle.code.specs.Systematic.{syndrome-is}
use Rattle.settling.specs.Definition.{Explains}
use Rattle.settling.specs.Locator.{X, lead_is, root-power}

-- ---- one change

sum-exponent : (e p r : ℕ) (a : F) → r ≡ (e + p) % 255 → pow α e ≡ a → pow α r ≡ X p ⊙ a
sum-exponent e p r a is h = ap (pow α) is ∙ power_mod (e + p) ∙ pow-add α e p ∙ ⊙_comm _ _ ∙ ap (λ t. X p ⊙ t) h

pub first-exponent : (e p r : ℕ) (y : F) → y ≢ 𝟎 → e ≡ log y → r ≡ (e + p) % 255 → pow α r ≡ X p ⊙ y
first-exponent e p r y h l is = sum-exponent e p r y is (ap (pow α) l ∙ pow-log y h)

pub next-exponent : (e p r j : ℕ) (a : F) → r ≡ (e + p) % 255 → pow α e ≡ a ⊙ pow (X p) j
    → pow α r ≡ a ⊙ pow (X p) (j + 1)
next-exponent e p r j a is h = sum-exponent e p r _ is h ∙ rw (add-one, pow-suc) (simp ⊙-ring)

pub change-is : (m p : ℕ) (y : F) → K (X p ⊙ y) ⊠ cut m (pow (X p)) ≡ K y ⊠ cut m (λ j. pow (root 1 j) p)
change-is m p y = sym (cut-K-⊠ m _ _) ∙ ap (cut m) (fun_ext term) ∙ cut-K-⊠ m _ _
  where
    term : (j : ℕ) → (K (X p ⊙ y) ⊠ pow (X p)) j ≡ (K y ⊠ (λ i. pow (root 1 i) p)) j
    term j = rw (K-⊠-at, K-⊠-at, root-power j p, lead_is) (simp ⊙-ring)

pub no_change : (f g : Series) (y : F) → y ≡ 𝟎 → f ≡ f ⊞ K y ⊠ g
no_change f g y z = rw (z, K-zero) (simp ⊠-ring)

-- ---- position after position

pub effect-none : (m : ℕ) (e : Series) → bytes (replicate 48 0) ≡ cut m (syndrome 1 0 e)
effect-none m e =
    read-zeros of 0 of_zero 48 O
    ∙ cut-none O
    ∙ sym (cut_unique m _ O (λ j h. syndrome-is 1 0 e j ∙ value_none e (root 1 j) ∙ sym (O-at j)) (λ j h. O-at j))

syndrome-suc : (p : ℕ) (e : Series) → syndrome 1 (suc p) e ≡ syndrome 1 p e ⊞ K (e p) ⊠ (λ j. pow (root 1 j) p)
syndrome-suc p e =
    fun_ext (λ j.
    syndrome-is 1 (suc p) e j ∙ value-last p e (root 1 j) ∙ sym (⊞-at _ _ j ∙ rw (K-⊠-at, syndrome-is 1 p e j)))

pub effect-more : (m p : ℕ) (e f g : Series) (y : F) → f ≡ cut m (syndrome 1 p e) → y ≡ e p
    → g ≡ f ⊞ K y ⊠ cut m (λ j. pow (root 1 j) p)
    → g ≡ cut m (syndrome 1 (p + 1) e)
effect-more m p e f g y is at more =
    more
    ∙ ap₂ (λ h a. h ⊞ K a ⊠ cut m (λ j. pow (root 1 j) p)) is at
    ∙ sym (rw (add-one, syndrome-suc p e) (cut-⊞ m _ _ ∙ ap (λ h. cut m (syndrome 1 p e) ⊞ h) (cut-K-⊠ m (e p) _)))

pub count-more : (p count next : ℕ) (e : Series) (y : F) → count ≡ weight p e → y ≡ e p
    → next ≡ ite (y ≟ 𝟎) count (suc count)
    → next ≡ weight (p + 1) e
unfolding weight
count-more p count next e y is at more = more ∙ ap₂ (λ a n. ite (a ≟ 𝟎) n (suc n)) at is ∙ rw add-one

-- ---- the test

unfoldable pub same? : (m : ℕ) (f g : Series) → Dec ((j : ℕ) → j < m → f j ≡ g j)
same? m f g = all? m (λ j. f j ≟ g j)

module _ (t n : ℕ) (s e : Series) where
  pub test-long : t < weight n e → ¬ Explains 1 t n s e
  test-long h x = omega (arith, x.within)

  module _ (m : ℕ) (f : Series) (is : m ≡ 2 * t) (q : f ≡ cut m (syndrome 1 n e)) where
    at : (j : ℕ) → j < m → f j ≡ syndrome 1 n e j
    at j b = ap (λ (g : Series). g j) q ∙ cut_low m (syndrome 1 n e) j b

    pub test-passed : weight n e ≤ t → holds (same? m f s) ≡ true → Explains 1 t n s e
    test-passed h same = record {
      within = h;
      syndromes = λ j b. sym (at j (omega arith)) ∙ (decide_iff (same? m f s)).0 same j (omega arith);
    }

    pub test-failed : holds (same? m f s) ≡ false → ¬ Explains 1 t n s e
    test-failed other x =
        true≢false (sym (holds_yes (same? m f s) (λ j b. at j b ∙ x.syndromes j (omega arith))) ∙ other)
