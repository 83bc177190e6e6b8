-- What the direct formulas give where at most three changes explain the syndromes.
--
-- Proved, with D for Δ1: D is the product of the sums of two locations each, and φ is D times the product of all three
-- (D-product, φ-is). So the branch vector tells the number of changes, which is the length, and Λ has their locations
-- as factors (direct-one, direct-two, direct-three); what is found from Λ explains the syndromes (changes-found).
use Rattle.std.specs.Prelude.{ℕ, ◌≤◌, ◌≡◌, ◌≢◌}
use Rattle.std.proofs.Math.Path.{refl}
use Rattle.std.proofs.Common.{sym, ap, ◌∙◌, subst, arith}
use Rattle.std.proofs.Math.Logic.{by_cases}
use Rattle.field.specs.Field.{F, 𝟎, ◌⊕◌, ◌⊙◌, ◌≟◌, ⊕_assoc, ⊕_comm, ⊕-left_comm, ⊕-equal, ⊕-zero, zero-⊙, ⊙-zero}
use Rattle.field.specs.Field.{⊙-ring, ⊙_assoc, ⊕_lc, pow, is_zero_yes, is_zero_no}
use Rattle.field.proofs.Field.{⊙_nonzero, pow_nonzero}
use Rattle.series.specs.Series.{Series, O}
use Rattle.binary.specs.Coefficients.{◌◂◌, ◂-O, ◂_at0, ◂-suc, pow_2, powers}
use Rattle.binary.specs.Algorithm.{State}
use Rattle.binary.specs.Tables.{Δ1, φ, branch, v000, v001, v011, v101, formulas, direct}
use Rattle.binary.specs.Equal.{Δ1-less}
use Rattle.binary.specs.Changes.{Explained, Changes, none, one, two, three}
use Rattle.binary.specs.Locations.{e1, e2, e3, Factors, Same, xyz, xzy, yxz, yzx, zxy, zyx, Finds}

-- ---- which formulas are taken

module _ (a b c : F) where
  direct_000 : a ≢ 𝟎 → Δ1 a b ≢ 𝟎 → φ a b c ≢ 𝟎 → direct a b c ≡ v000 a b c
  unfolding branch formulas
  direct_000 p q r = rw (is_zero_no a p, is_zero_no _ q, is_zero_no _ r) refl

  direct_001 : a ≢ 𝟎 → Δ1 a b ≢ 𝟎 → φ a b c ≡ 𝟎 → direct a b c ≡ v001 a b c
  unfolding branch formulas
  direct_001 p q r = rw (is_zero_no a p, is_zero_no _ q, is_zero_yes _ r) refl

  direct_011 : a ≢ 𝟎 → Δ1 a b ≡ 𝟎 → φ a b c ≡ 𝟎 → direct a b c ≡ v011 a b c
  unfolding branch formulas
  direct_011 p q r = rw (is_zero_no a p, is_zero_yes _ q, is_zero_yes _ r) refl

  direct_101 : a ≡ 𝟎 → Δ1 a b ≢ 𝟎 → direct a b c ≡ v101 a b c
  unfolding branch formulas
  direct_101 p q = rw (is_zero_yes a p, is_zero_no _ q) refl

  φ_parts : φ a b c ≡ a ⊙ (c ⊕ pow a 2 ⊙ b) ⊕ Δ1 a b ⊙ Δ1 a b
  φ_parts = simp (⊙-ring, powers)

  third-part : a ⊙ c ⊕ pow a 3 ⊙ b ≡ a ⊙ (c ⊕ pow a 2 ⊙ b)
  third-part = simp (⊙-ring, powers)

squares : (a b : F) → pow a 6 ⊕ pow b 2 ≡ Δ1 a b ⊙ Δ1 a b
squares a b = simp (⊙-ring, powers)

-- ---- three locations, of which some may be zero

-- the sums of third and of fifth powers
abbrev p3 : F → F → F → F
p3 x y z = pow x 3 ⊕ (pow y 3 ⊕ pow z 3)

abbrev p5 : F → F → F → F
p5 x y z = pow x 5 ⊕ (pow y 5 ⊕ pow z 5)

module _ (x y z : F) where
  abbrev D : F
  D = Δ1 (e1 x y z) (p3 x y z)

  D-is : D ≡ e1 x y z ⊙ e2 x y z ⊕ e3 x y z
  D-is = simp (⊙-ring, powers)

  D-product : D ≡ (x ⊕ y) ⊙ ((x ⊕ z) ⊙ (y ⊕ z))
  D-product = simp (⊙-ring, powers)

  fifth-is : p5 x y z ⊕ pow (e1 x y z) 2 ⊙ p3 x y z ≡ D ⊙ e2 x y z
  fifth-is = simp (⊙-ring, powers)

  φ-is : φ (e1 x y z) (p3 x y z) (p5 x y z) ≡ D ⊙ e3 x y z
  φ-is =
      φ_parts (e1 x y z) (p3 x y z) (p5 x y z)
      ∙ ap (λ t. e1 x y z ⊙ t ⊕ D ⊙ D) fifth-is
      ∙ shape (e1 x y z) (e2 x y z) (e3 x y z) D D-is
    where
      shape : (a b c d : F) → d ≡ a ⊙ b ⊕ c → a ⊙ (d ⊙ b) ⊕ d ⊙ d ≡ d ⊙ c
      shape a b c d h = ⊕_lc (λ i. d ⊙ h i) (simp ⊙-ring)

-- ---- Λ by its first four coefficients

factors-of : (a b c d : F) (f : Series) (x y z : F) → a ≢ 𝟎 → b ≡ a ⊙ e1 x y z → c ≡ a ⊙ e2 x y z → d ≡ a ⊙ e3 x y z
    → Factors (a ◂ b ◂ c ◂ d ◂ f) x y z
factors-of a b c d f x y z h p q r = record {
  some = rw ◂_at0 h;
  sum = at_1 ∙ p ∙ times_0 _;
  pairs = at_2 ∙ q ∙ times_0 _;
  all = at_3 ∙ r ∙ times_0 _;
}
  where
    at_1 : (a ◂ b ◂ c ◂ d ◂ f) 1 ≡ b
    at_1 = ◂-suc a _ 0 ∙ ◂_at0 b _

    at_2 : (a ◂ b ◂ c ◂ d ◂ f) 2 ≡ c
    at_2 = ◂-suc a _ 1 ∙ ◂-suc b _ 0 ∙ ◂_at0 c _

    at_3 : (a ◂ b ◂ c ◂ d ◂ f) 3 ≡ d
    at_3 = ◂-suc a _ 2 ∙ ◂-suc b _ 1 ∙ ◂-suc c _ 0 ∙ ◂_at0 d f

    times_0 : (e : F) → a ⊙ e ≡ (a ◂ b ◂ c ◂ d ◂ f) 0 ⊙ e
    times_0 e = ap (λ t. t ⊙ e) (sym (◂_at0 a _))

-- ---- the number of changes and their factors

-- the state s has the length k, and a Λ with these factors
record Has (s : State) (k : ℕ) (x y z : F) : Type 0 where
  length : s.LΛ ≡ k
  factors : Factors s.Λ x y z

apart : (x y : F) → x ≢ y → x ⊕ y ≢ 𝟎
apart x y h z = h (⊕-equal x y z)

square-times : (a d : F) → pow a 2 ⊙ d ≡ a ⊙ d ⊙ a
square-times a d = simp (⊙-ring, powers)

cube-is : (a : F) → pow a 3 ≡ pow a 2 ⊙ a
cube-is a = simp (⊙-ring, powers)

-- where the sum of the locations is zero
module _ (a b : F) (h : a ≡ 𝟎) where
  fifth-less : (c e : F) → c ⊕ pow a 2 ⊙ b ≡ Δ1 a b ⊙ e → c ≡ b ⊙ e
  fifth-less c e k = sym (rw h (simp (⊙-ring, powers))) ∙ k ∙ ap (λ t. t ⊙ e) (sym (Δ1-less a b 𝟎 h))

  D-less : (e f : F) → Δ1 a b ≡ a ⊙ e ⊕ f → b ≡ f
  D-less e f k = Δ1-less a b 𝟎 h ∙ k ∙ rw h (simp ⊙-ring)

direct-three : (x y z : F) → x ≢ 𝟎 → y ≢ 𝟎 → z ≢ 𝟎 → x ≢ y → x ≢ z → y ≢ z
    → Has (direct (e1 x y z) (p3 x y z) (p5 x y z)) 3 x y z
direct-three x y z hx hy hz xy xz yz = by_cases (e1 x y z ≟ 𝟎) without with-sum
  where
    D≢0 : Δ1 (e1 x y z) (p3 x y z) ≢ 𝟎
    D≢0 = rw D-product (⊙_nonzero _ _ (apart x y xy) (⊙_nonzero _ _ (apart x z xz) (apart y z yz)))

    φ≢0 : φ (e1 x y z) (p3 x y z) (p5 x y z) ≢ 𝟎
    φ≢0 = rw φ-is (⊙_nonzero _ _ D≢0 (⊙_nonzero _ _ hx (⊙_nonzero _ _ hy hz)))

    with-sum : e1 x y z ≢ 𝟎 → Has (direct (e1 x y z) (p3 x y z) (p5 x y z)) 3 x y z
    with-sum h = subst (λ (s : State). Has s 3 x y z) (sym (direct_000 _ _ _ h D≢0 φ≢0)) (record {
      length = refl;
      factors = factors-of _ _ _ _ O x y z (⊙_nonzero _ _ h D≢0) (square-times _ _)
          (third-part (e1 x y z) (p3 x y z) (p5 x y z) ∙ ap (λ t. e1 x y z ⊙ t) (fifth-is x y z)
          ∙ sym (⊙_assoc _ _ _))
          (ap (λ t. e1 x y z ⊙ t) (φ-is x y z) ∙ sym (⊙_assoc _ _ _));
    })

    without : e1 x y z ≡ 𝟎 → Has (direct (e1 x y z) (p3 x y z) (p5 x y z)) 3 x y z
    without h =
        let s : p3 x y z ≡ e3 x y z = D-less _ _ h _ _ (D-is x y z) in
        subst (λ (s : State). Has s 3 x y z) (sym (direct_101 _ _ _ h D≢0)) (record {
          length = refl;
          factors = factors-of _ _ _ _ O x y z (λ k. D≢0 (sym (Δ1-less _ _ 𝟎 h) ∙ k)) (sym (rw h (⊙-zero _)))
              (fifth-less _ _ h _ _ (fifth-is x y z)) (pow_2 _ ∙ ap (λ t. p3 x y z ⊙ t) s);
        })

direct-two : (x y : F) → x ≢ 𝟎 → y ≢ 𝟎 → x ≢ y → Has (direct (e1 x y 𝟎) (p3 x y 𝟎) (p5 x y 𝟎)) 2 x y 𝟎
direct-two x y hx hy xy =
    subst (λ (s : State). Has s 2 x y 𝟎) (sym (direct_001 _ _ _ e1≢0 D≢0 φ≡0)) (record {
      length = refl;
      factors = rw (← ◂-O) (factors-of _ _ _ _ O x y 𝟎 (⊙_nonzero _ _ e1≢0 D≢0) (square-times _ _)
          (squares (e1 x y 𝟎) (p3 x y 𝟎) ∙ shape _ _ _ _ (D-is x y 𝟎) e3≡0)
          (sym (rw e3≡0 (⊙-zero _))));
    })
  where
    e3≡0 : e3 x y 𝟎 ≡ 𝟎
    e3≡0 = simp ⊙-ring

    e1≢0 : e1 x y 𝟎 ≢ 𝟎
    e1≢0 = rw ⊕-zero (apart x y xy)

    D≢0 : Δ1 (e1 x y 𝟎) (p3 x y 𝟎) ≢ 𝟎
    D≢0 = rw D-product (simp ⊕-zero (⊙_nonzero _ _ (apart x y xy) (⊙_nonzero _ _ hx hy)))

    φ≡0 : φ (e1 x y 𝟎) (p3 x y 𝟎) (p5 x y 𝟎) ≡ 𝟎
    φ≡0 = φ-is x y 𝟎 ∙ rw e3≡0 (⊙-zero _)

    shape : (a b c d : F) → d ≡ a ⊙ b ⊕ c → c ≡ 𝟎 → d ⊙ d ≡ a ⊙ d ⊙ b
    shape a b c d h z = ⊕_lc (λ i. d ⊙ h i ⊕ d ⊙ z i) (simp ⊙-ring)

direct-one : (x : F) → x ≢ 𝟎 → Has (direct (e1 x 𝟎 𝟎) (p3 x 𝟎 𝟎) (p5 x 𝟎 𝟎)) 1 x 𝟎 𝟎
direct-one x hx =
    subst (λ (s : State). Has s 1 x 𝟎 𝟎) (sym (direct_011 _ _ _ e1≢0 D≡0 φ≡0)) (record {
      length = refl;
      factors = rw (← ◂-O, ← ◂-O) (factors-of _ _ _ _ O x 𝟎 𝟎 (pow_nonzero _ 2 e1≢0) (cube-is _)
          (sym (simp ⊙-ring)) (sym (simp ⊙-ring)));
    })
  where
    e1≢0 : e1 x 𝟎 𝟎 ≢ 𝟎
    e1≢0 = simp ⊕-zero hx

    D≡0 : Δ1 (e1 x 𝟎 𝟎) (p3 x 𝟎 𝟎) ≡ 𝟎
    D≡0 = D-product x 𝟎 𝟎 ∙ simp ⊙-ring

    φ≡0 : φ (e1 x 𝟎 𝟎) (p3 x 𝟎 𝟎) (p5 x 𝟎 𝟎) ≡ 𝟎
    φ≡0 = φ-is x 𝟎 𝟎 ∙ rw D≡0 (zero-⊙ _)

-- ---- what is found from Λ

-- the order of the locations does not matter
module _ {n : ℕ} {S0 S2 S4 : F} where
  exchanged : {x y z : F} → Explained n S0 S2 S4 x y z → Explained n S0 S2 S4 y x z
  exchanged e = record {
    within_x = e.within_y;
    within_y = e.within_x;
    within_z = e.within_z;
    first = ⊕-left_comm _ _ _ ∙ e.first;
    third = ⊕-left_comm _ _ _ ∙ e.third;
    fifth = ⊕-left_comm _ _ _ ∙ e.fifth;
  }

  rotated : {x y z : F} → Explained n S0 S2 S4 x y z → Explained n S0 S2 S4 y z x
  rotated e = record {
    within_x = e.within_y;
    within_y = e.within_z;
    within_z = e.within_x;
    first = sym (⊕_assoc _ _ _) ∙ ⊕_comm _ _ ∙ e.first;
    third = sym (⊕_assoc _ _ _) ∙ ⊕_comm _ _ ∙ e.third;
    fifth = sym (⊕_assoc _ _ _) ∙ ⊕_comm _ _ ∙ e.fifth;
  }

  same-explained : {a b c x y z : F} → Same a b c x y z → Explained n S0 S2 S4 x y z → Explained n S0 S2 S4 a b c
  same-explained (xyz p q r) e = rw (p, q, r) e
  same-explained (xzy p q r) e = rw (p, q, r) (rotated (exchanged e))
  same-explained (yxz p q r) e = rw (p, q, r) (exchanged e)
  same-explained (yzx p q r) e = rw (p, q, r) (rotated e)
  same-explained (zxy p q r) e = rw (p, q, r) (rotated (rotated e))
  same-explained (zyx p q r) e = rw (p, q, r) (exchanged (rotated e))

module _ (n : ℕ) (S0 S2 S4 : F) where
  -- what is said of a state that has the formulas' length and Λ
  pub record Found (s : State) : Type 0 where
    pub short : s.LΛ ≤ 3
    pub explained : (a b c : F) → Finds s.Λ s.LΛ a b c → Explained n S0 S2 S4 a b c

  pub changes-found : ¬ ((S0 ≡ 𝟎) × (S2 ≡ 𝟎) × (S4 ≡ 𝟎)) → Changes n S0 S2 S4 → Found (direct S0 S2 S4)
  changes-found some (none p q r) = absurd (some (p, q, r))
  changes-found some (one x hx e) =
      let h : Has (direct S0 S2 S4) 1 x 𝟎 𝟎 = rw (← e.first, ← e.third, ← e.fifth) (direct-one x hx) in
      record {
        short = omega (arith, h.length);
        explained = λ a b c f. same-explained (f.one h.length x h.factors) e;
      }
  changes-found some (two x y hx hy xy e) =
      let h : Has (direct S0 S2 S4) 2 x y 𝟎 = rw (← e.first, ← e.third, ← e.fifth) (direct-two x y hx hy xy) in
      record {
        short = omega (arith, h.length);
        explained = λ a b c f. same-explained (f.two h.length x y xy h.factors) e;
      }
  changes-found some (three x y z hx hy hz xy xz yz e) =
      let h : Has (direct S0 S2 S4) 3 x y z =
      rw (← e.first, ← e.third, ← e.fifth) (direct-three x y z hx hy hz xy xz yz) in
      record {
        short = omega (arith, h.length);
        explained = λ a b c f. same-explained (f.three h.length x y z xy xz yz h.factors) e;
      }
