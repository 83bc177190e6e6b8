-- How a quadratic and a cubic equation are solved from tables of roots, and the locations from that.
--
--   root_table f   the table that has at k the least w with f w = k, as bytes; 0 if there is none
--
-- Proved: what is read from such a table is a root (root-at); one of two values (one_of_two), one of three whose sum is
-- zero (one_of_three, one-of-three_pure), and all of them (two-same, three-same); the locations from what a locator is
-- over its constant term (finds-one, finds-two, finds-three); powers by logarithms (pow_by-log).
use Rattle.std.specs.Prelude.{ℕ, zero, suc, ◌+◌, ◌*◌, ◌≤◌, ◌<◌, ◌≡◌, refl, ◌≢◌, ◌⊎◌, List, length, get_or, set}
use Rattle.std.specs.Prelude.{replicate}
use Rattle.std.proofs.Common.{sym, ap, ◌∙◌, inl, inr, ⊎_elim, arith, length-set, get_or-set_same, get_or-set_other}
use Rattle.std.proofs.Math.Decide.{ℕ_discrete}
use Rattle.field.specs.declared.Gf.{Gf}
use Rattle.field.specs.Field.{F, 𝟎, 𝟏, α, ◌⊕◌, ◌⊙◌, ◌≟◌, of, byte, val, inv, log, pow, ⊙-ring, ⊕_lc, ⊕-equal, one-⊙}
use Rattle.field.specs.Field.{of-byte, byte_of, byte_lt, byte_inj, val_of, pow-one, pow-suc}
use Rattle.field.proofs.Field.{⊙-factor, mul-inv}
use Rattle.field.specs.Field.{pow-add, pow_mul}
use Rattle.field.proofs.Field.{pow-log, pow_255}
use Rattle.series.specs.Series.{Series}
use Rattle.binary.specs.Coefficients.{pow_3, pow_cycle}
use Rattle.binary.specs.Locations.{Factors, over, Symmetric, xyz, xzy, yxz, yzx, zxy, zyx, quadratic, cubic}
use Rattle.binary.specs.Locations.{RootOf, OneOfTwo, OneOfThree, Two, Three, Finds}

-- ---- tables of roots

-- the same, with the w that are i, i + 1, .. , n of them
unfoldable pub roots_from : (F → F) → ℕ → ℕ → List ℕ
roots_from f zero i = replicate 256 0
roots_from f (suc n) i = set (roots_from f n (suc i)) (byte (f (of i))) i

unfoldable pub root_table : (F → F) → List ℕ
root_table f = roots_from f 256 0

length-roots_from : (f : F → F) (n i : ℕ) → length (roots_from f n i) ≡ 256
unfolding roots_from
length-roots_from f zero i = refl
length-roots_from f (suc n) i = length-set (roots_from f n (suc i)) _ i ∙ length-roots_from f n (suc i)

roots_from-at : (f : F → F) (n i k : ℕ) → i ≤ k → k < i + n
    → f (of (get_or (roots_from f n i) (byte (f (of k))) 0)) ≡ f (of k)
unfolding roots_from
roots_from-at f zero i k l h = absurd (omega arith)
roots_from-at f (suc n) i k l h = go (ℕ_discrete _ _) (λ s. roots_from-at f n (suc i) k s (omega arith))
  where
    later : List ℕ
    later = roots_from f n (suc i)

    at : ℕ
    at = byte (f (of i))

    go : Dec (byte (f (of k)) ≡ at) → (suc i ≤ k → f (of (get_or later (byte (f (of k))) 0)) ≡ f (of k))
        → f (of (get_or (set later at i) (byte (f (of k))) 0)) ≡ f (of k)
    go (yes e) before =
        let inside : at < length later = omega (arith, byte_lt (f (of i)), length-roots_from f n (suc i)) in
        rw (e, get_or-set_same later at i 0) (byte_inj _ _ (sym e))
    go (no d) before =
        let apart : k ≢ i = λ e. d (ap (λ j. byte (f (of j))) e) in
        rw (get_or-set_other later at (byte (f (of k))) i 0) (before (omega arith))

pub root-at : (f : F → F) (k : Gf) (i : ℕ) → (i ≡ k.0) × (i < 256)
    → RootOf f (val k) (of (get_or (root_table f) i 0))
unfolding root_table
root-at f k i h w e =
    let is : f (of (byte w)) ≡ val k = ap f (of-byte w) ∙ e in
    let at-w : byte (f (of (byte w))) ≡ i = ap byte (is ∙ val_of k ∙ ap of (sym h.0)) ∙ byte_of i h.1 in
    (rw at-w at (roots_from-at f 256 0 (byte w) (omega arith) (omega (arith, byte_lt w)))) ∙ is

-- ---- a root of a product is a root of a factor

root-two : (r x y : F) → (r ⊕ x) ⊙ (r ⊕ y) ≡ 𝟎 → (r ≡ x) ⊎ (r ≡ y)
root-two r x y e = go (r ⊕ x ≟ 𝟎)
  where
    go : Dec (r ⊕ x ≡ 𝟎) → (r ≡ x) ⊎ (r ≡ y)
    go (yes z) = inl (⊕-equal r x z)
    go (no n) = inr (⊕-equal r y (⊙-factor (r ⊕ x) (r ⊕ y) n e))

root-three : (r x y z : F) → (r ⊕ x) ⊙ ((r ⊕ y) ⊙ (r ⊕ z)) ≡ 𝟎 → (r ≡ x) ⊎ ((r ≡ y) ⊎ (r ≡ z))
root-three r x y z e = go (r ⊕ x ≟ 𝟎)
  where
    go : Dec (r ⊕ x ≡ 𝟎) → (r ≡ x) ⊎ ((r ≡ y) ⊎ (r ≡ z))
    go (yes d) = inl (⊕-equal r x d)
    go (no n) = inr (root-two r y z (⊙-factor (r ⊕ x) _ n e))

-- ---- powers

pub pow_by-log : (x : F) (n : ℕ) → x ≢ 𝟎 → pow α (log x * n) ≡ pow x n
pow_by-log x n h = pow_mul α (log x) n ∙ ap (λ (s : F). pow s n) (pow-log x h)

-- ---- one of two values

pub one_of_two : (s p r : F) → RootOf quadratic (p ⊙ pow s 253) r → OneOfTwo s p (s ⊙ r)
one_of_two s p r solve x y ne sum both =
    root-two (s ⊙ r) x y
    (⊕_lc (λ i. s ⊙ r ⊙ sum i ⊕ (s ⊙ s ⊙ root i ⊕ (p ⊙ one i ⊕ both i))) (simp ⊙-ring))
  where
    q : F
    q = pow s 253

    one : s ⊙ (s ⊙ q) ≡ 𝟏
    one =
        ap (λ t. s ⊙ t) (sym (pow-suc s 253)) ∙ sym (pow-suc s 254) ∙ pow_255 s (λ z. ne (⊕-equal x y (sum ∙ z)))

    root : quadratic r ≡ p ⊙ q
    root =
        solve (x ⊙ (s ⊙ q))
        (⊕_lc (λ i. x ⊙ (x ⊙ q) ⊙ one i ⊕ (x ⊙ q ⊙ sum i ⊕ q ⊙ both i)) (simp ⊙-ring))

-- ---- one of three values whose sum is zero

module _ {x y z a b : F} (given : Symmetric x y z 𝟎 a b) where
  factored : (r : F) → (r ⊕ x) ⊙ ((r ⊕ y) ⊙ (r ⊕ z)) ≡ r ⊙ (r ⊙ r) ⊕ (a ⊙ r ⊕ b)
  factored r = ⊕_lc (λ i. r ⊙ r ⊙ given.sum i ⊕ (r ⊙ given.pairs i ⊕ given.all i)) (simp ⊙-ring)

  factored-root : (r : F) → r ⊙ (r ⊙ r) ⊕ (a ⊙ r ⊕ b) ≡ 𝟎 → (r ≡ x) ⊎ ((r ≡ y) ⊎ (r ≡ z))
  factored-root r e = root-three r x y z (factored r ∙ e)

  factored-first : x ⊙ (x ⊙ x) ⊕ (a ⊙ x ⊕ b) ≡ 𝟎
  factored-first = sym (factored x) ∙ simp ⊙-ring

pub one_of_three : (a b r : F) → a ≢ 𝟎 → RootOf cubic (b ⊙ pow a 126) r → OneOfThree a b (pow a 128 ⊙ r)
one_of_three a b r h solve x y z given =
    factored-root given (s ⊙ r)
    (⊕_lc (λ i. s ⊙ (s ⊙ s) ⊙ root i ⊕ (b ⊙ one i ⊕ s ⊙ r ⊙ square i)) (simp ⊙-ring))
  where
    s : F
    s = pow a 128

    q : F
    q = pow a 126

    square : s ⊙ s ≡ a
    square = sym (pow-add a 128 128) ∙ pow_cycle a 0 ∙ pow-one a

    one : s ⊙ (s ⊙ (s ⊙ q)) ≡ 𝟏
    one = rw (← pow-add, ← pow-add, ← pow-add) (pow-add a 255 255 ∙ rw (pow_255 a h) (one-⊙ 𝟏))

    root : cubic r ≡ b ⊙ q
    root =
        solve (x ⊙ (s ⊙ (s ⊙ q)))
        (⊕_lc (λ i. x ⊙ (x ⊙ x) ⊙ q ⊙ (one i ⊙ one i) ⊕ (x ⊙ q ⊙ square i ⊕ q ⊙ factored-first given i)) (simp ⊙-ring))

-- each of the three has the third power b
pub one-of-three_pure : (b : F) → OneOfThree 𝟎 b (pow b 57)
one-of-three_pure b x y z given = factored-root given r (⊕_lc third (simp ⊙-ring))
  where
    r : F
    r = pow b 57

    is_x : b ≡ pow x 3
    is_x = ⊕_lc (factored-first given) (rw pow_3 (simp ⊙-ring))

    third : r ⊙ (r ⊙ r) ≡ b
    third =
        sym (pow_3 r) ∙ sym (pow_mul b 57 3) ∙ ap (λ (s : F). pow s 171) is_x
        ∙ sym (pow_mul x 3 171) ∙ pow_cycle x 257 ∙ pow_cycle x 2 ∙ sym is_x

-- ---- all of them

pub two-same : (s p r : F) → OneOfTwo s p r → Two s p r (r ⊕ s) 𝟎
two-same s p r one x y ne sum both =
    ⊎_elim (λ e. xyz e (⊕_lc (λ i. e i ⊕ sum i) (simp ⊙-ring)) refl)
    (λ e. yxz e (⊕_lc (λ i. e i ⊕ sum i) (simp ⊙-ring)) refl) (one x y ne sum both)

divided : {d e : F} (c : F) → c ≢ 𝟎 → c ⊙ d ≡ e → d ≡ e ⊙ inv c
divided {d} {e} c n h = ⊕_lc (λ i. inv c ⊙ h i ⊕ d ⊙ mul-inv c n i) (simp ⊙-ring)

symmetric_turn : {x y z s p a : F} → Symmetric x y z s p a → Symmetric y z x s p a
symmetric_turn h =
    record {
      sum = ⊕_lc h.sum (simp ⊙-ring);
      pairs = ⊕_lc h.pairs (simp ⊙-ring);
      all = ⊕_lc h.all (simp ⊙-ring);
    }

-- the sums of two of them have the sum zero
symmetric-sums : (x y z s p a : F) → Symmetric x y z s p a
    → Symmetric (y ⊕ z) (z ⊕ x) (x ⊕ y) 𝟎 (s ⊙ s ⊕ p) (s ⊙ p ⊕ a)
symmetric-sums x y z s p a h =
    record {
      sum = simp ⊙-ring;
      pairs = rw (← h.sum, ← h.pairs) (simp ⊙-ring);
      all = rw (← h.sum, ← h.pairs, ← h.all) (simp ⊙-ring);
    }

-- u is the sum of two of them, and v is another such sum
module _ (s p a u v : F) (second : OneOfTwo u ((s ⊙ p ⊕ a) ⊙ inv u) v) where
  -- the two are y and z
  apart : {C : Type 0} (x y z : F) → y ≢ z → Symmetric x y z s p a
      → (s ⊕ u ≡ x → s ⊕ v ≡ y → s ⊕ (u ⊕ v) ≡ z → C) → (s ⊕ u ≡ x → s ⊕ v ≡ z → s ⊕ (u ⊕ v) ≡ y → C)
      → u ≡ y ⊕ z → C
  apart x y z ne h yz zy e =
      ⊎_elim (λ d. yz first (⊕_lc (λ i. d i ⊕ h.sum i) (simp ⊙-ring))
      (⊕_lc (λ i. d i ⊕ (e i ⊕ h.sum i)) (simp ⊙-ring)))
      (λ d. zy first (⊕_lc (λ i. d i ⊕ h.sum i) (simp ⊙-ring))
      (⊕_lc (λ i. d i ⊕ (e i ⊕ h.sum i)) (simp ⊙-ring)))
      (second (z ⊕ x) (x ⊕ y) (λ d. ne (⊕_lc d (simp ⊙-ring))) (⊕_lc e (simp ⊙-ring)) both)
    where
      first : s ⊕ u ≡ x
      first = ⊕_lc (λ i. e i ⊕ h.sum i) (simp ⊙-ring)

      both : (z ⊕ x) ⊙ (x ⊕ y) ≡ (s ⊙ p ⊕ a) ⊙ inv u
      both = divided u (λ d. ne (⊕-equal y z (sym e ∙ d))) (rw e (symmetric-sums x y z s p a h).all)

  pub three-same : OneOfThree (s ⊙ s ⊕ p) (s ⊙ p ⊕ a) u → Three s p a (s ⊕ u) (s ⊕ v) (s ⊕ (u ⊕ v))
  three-same one x y z xy xz yz h =
      ⊎_elim (apart x y z yz h xyz xzy)
      (⊎_elim (apart y z x (λ e. xz (sym e)) (symmetric_turn h) yzx yxz)
      (apart z x y xy (symmetric_turn (symmetric_turn h)) zxy zyx))
      (one (y ⊕ z) (z ⊕ x) (x ⊕ y) (symmetric-sums x y z s p a h))

-- ---- the locations from a locator

factors_symmetric : (Λ : Series) (x y z : F) → Factors Λ x y z → Symmetric x y z (over Λ 1) (over Λ 2) (over Λ 3)
factors_symmetric Λ x y z h =
    record {
      sum = divided (Λ 0) h.some (sym h.sum);
      pairs = divided (Λ 0) h.some (sym h.pairs);
      all = divided (Λ 0) h.some (sym h.all);
    }

pub finds-one : (Λ : Series) (L : ℕ) → L ≡ 1 → Finds Λ L (over Λ 1) 𝟎 𝟎
finds-one Λ L l =
    record {
      one = λ _ x h. xyz (⊕_lc (factors_symmetric Λ x 𝟎 𝟎 h).sum (simp ⊙-ring)) refl refl;
      two = λ k. absurd (omega arith);
      three = λ k. absurd (omega arith);
    }

pub finds-two : (Λ : Series) (L : ℕ) (a b c : F) → L ≡ 2 → Two (over Λ 1) (over Λ 2) a b c → Finds Λ L a b c
finds-two Λ L a b c l same =
    record {
      one = λ k. absurd (omega arith);
      two = λ _ x y n h. let is = factors_symmetric Λ x y 𝟎 h in
          same x y n (⊕_lc is.sum (simp ⊙-ring)) (⊕_lc is.pairs (simp ⊙-ring));
      three = λ k. absurd (omega arith);
    }

pub finds-three : (Λ : Series) (L : ℕ) (a b c : F) → L ≢ 1 → L ≢ 2 → Three (over Λ 1) (over Λ 2) (over Λ 3) a b c
    → Finds Λ L a b c
finds-three Λ L a b c l m same =
    record {
      one = λ k. absurd (l k);
      two = λ k. absurd (m k);
      three = λ _ x y z xy xz yz h. same x y z xy xz yz (factors_symmetric Λ x y z h);
    }
