-- That what is located is right: the laws that the test of three locations, and the way to them, come to.
--
-- Proved: three values are zero exactly where the test says so (zeros_yes, zeros_no); what the test of three locations
-- answers (tests_outside, tests-sums); what is answered to a clean word, to one whose locator is too long and to one
-- that is put to the test (locates-clean, locates-long, locates_tested).
use Rattle.std.specs.Prelude.{ℕ, ◌<◌, ◌≡◌, refl, Bool, true, false, ◌&&◌, Option, Some, None}
use Rattle.std.proofs.Common.{sym, ap, ◌∙◌, true≢false, arith}
use Rattle.field.specs.Field.{F, 𝟎, ◌⊕◌, ⊕_self, ⊕_assoc, ⊕-equal, ⊕-group, pow, val}
use Rattle.field.specs.Field.{is_zero, is_zero_yes, is_zero_true}
use Rattle.binary.specs.declared.locations.Locations.{Locations}
use Rattle.binary.specs.Coefficients.{zero-pow}
use Rattle.binary.specs.Algorithm.{State}
use Rattle.binary.specs.Tables.{direct}
use Rattle.binary.specs.Changes.{Within, Tests, Locates}
use Rattle.binary.specs.Locations.{Finds}
use Rattle.binary.specs.Direct.{changes-found}

-- ---- three values that are zero

abbrev pub Zeros : F → F → F → Type 0
Zeros a b c = (a ≡ 𝟎) × (b ≡ 𝟎) × (c ≡ 𝟎)

pub both_true : (a b : Bool) → a && b ≡ true → (a ≡ true) × (b ≡ true)
both_true true b e = (refl, e)
both_true false b e = absurd (true≢false (sym e))

module _ (a b c : F) (r : Bool) (is : r ≡ is_zero a && (is_zero b && is_zero c)) where
  pub zeros_yes : r ≡ true → Zeros a b c
  zeros_yes t =
      let (p, rest) = both_true (is_zero a) _ (sym is ∙ t) in
      let (q, s) = both_true (is_zero b) _ rest in
      (is_zero_true a p, is_zero_true b q, is_zero_true c s)

  pub zeros_no : r ≡ false → ¬ Zeros a b c
  zeros_no f (p, q, s) =
      true≢false (sym (is ∙ rw (is_zero_yes a p, is_zero_yes b q, is_zero_yes c s) refl) ∙ f)

-- ---- the test

module _ (n : ℕ) (S0 S2 S4 x y z : F) where
  pub tests_outside : ¬ (Within n x × Within n y × Within n z) → Tests n S0 S2 S4 x y z false
  tests_outside h = record {
    sound = λ e. absurd (true≢false (sym e));
    complete = λ e s. h (s.within_x, s.within_y, s.within_z);
  }

  module _ (wx : Within n x) (wy : Within n y) (wz : Within n z) (t0 t2 t4 : F) (is0 : t0 ≡ x ⊕ y ⊕ z ⊕ S0)
      (is2 : t2 ≡ pow x 3 ⊕ pow y 3 ⊕ pow z 3 ⊕ S2) (is4 : t4 ≡ pow x 5 ⊕ pow y 5 ⊕ pow z 5 ⊕ S4)
      (r : Bool) (is : r ≡ is_zero t0 && (is_zero t2 && is_zero t4)) where
    -- a sum is zero exactly where its two parts are the same
    there : (a b c d t : F) → t ≡ a ⊕ b ⊕ c ⊕ d → t ≡ 𝟎 → a ⊕ (b ⊕ c) ≡ d
    there a b c d t e s = sym (⊕_assoc a b c) ∙ ⊕-equal _ _ (sym e ∙ s)

    back : (a b c d t : F) → t ≡ a ⊕ b ⊕ c ⊕ d → a ⊕ (b ⊕ c) ≡ d → t ≡ 𝟎
    back a b c d t e s = e ∙ ap (λ u. u ⊕ d) (⊕_assoc a b c ∙ s) ∙ ⊕_self d

    pub tests-sums : Tests n S0 S2 S4 x y z r
    tests-sums = record {
      sound = λ e.
          let (p, q, s) = zeros_yes t0 t2 t4 r is e in
          record {
            within_x = wx;
            within_y = wy;
            within_z = wz;
            first = there _ _ _ _ _ is0 p;
            third = there _ _ _ _ _ is2 q;
            fifth = there _ _ _ _ _ is4 s;
          };
      complete = λ e s. zeros_no t0 t2 t4 r is e
          (back _ _ _ _ _ is0 s.first, back _ _ _ _ _ is2 s.third, back _ _ _ _ _ is4 s.fifth);
    }

-- ---- what is located

module _ (n : ℕ) (S0 S2 S4 : F) where
  pub locates-clean : (l : Locations) → Zeros (val l.0) (val l.1) (val l.2) → Zeros S0 S2 S4
      → Locates n S0 S2 S4 (Some l)
  locates-clean l (x, y, z) (p, q, s) = record {
    within_x = λ h. absurd (h x);
    within_y = λ h. absurd (h y);
    within_z = λ h. absurd (h z);
    first = rw (x, y, z) (simp ⊕-group (sym p));
    third = rw (x, y, z) (simp (zero-pow 3 (omega arith), ⊕-group) (sym q));
    fifth = rw (x, y, z) (simp (zero-pow 5 (omega arith), ⊕-group) (sym s));
  }

  -- the state is that of the direct formulas
  module _ (some : ¬ Zeros S0 S2 S4) (s : State) (is : s ≡ direct S0 S2 S4) where
    pub locates-long : 3 < s.LΛ → Locates n S0 S2 S4 None
    locates-long l c =
        let h = (changes-found n S0 S2 S4 some c).short in
        let k : s.LΛ ≡ (direct S0 S2 S4).LΛ = ap (λ (t : State). t.LΛ) is in
        absurd (omega (arith, h, k))

    pub locates_tested : (b : Bool) (l : Locations) (r : Option Locations) → (b ≡ true → r ≡ Some l)
        → (b ≡ false → r ≡ None) → Finds s.Λ s.LΛ (val l.0) (val l.1) (val l.2)
        → Tests n S0 S2 S4 (val l.0) (val l.1) (val l.2) b → Locates n S0 S2 S4 r
    locates_tested true l r i j f t = rw (i refl) (t.sound refl)
    locates_tested false l r i j f t = rw (j refl) (λ c.
        t.complete refl ((changes-found n S0 S2 S4 some c).explained _ _ _ (rw (← is) f)))
