-- Values three positions at a time. W 85 has order three, so the terms at position p + 85 or p + 170 are those at p
-- with one of three factors, by their index modulo three.
--
--   third a m f      f a + f (a + 3) + f (a + 6) + ..: m terms, every third one from term a on
--   three x a b c    a + b·x + c·x²
--   Placed p f l     the array l of 255 symbols holds f at the positions q, q + 85 and q + 170, for every q below p
--
-- Proved: a value at W (p + q) from the thirds at W p, W q being a third root of one (value-three); w·w = w + 1 for
-- w = W 85, so that two products by w are enough (spread-zero, spread-one, spread-two). A loop that adds thirds goes on
-- by third-more and ends by third-all, one that places values by placed-more and placed-all.
use Rattle.std.specs.Prelude.{ℕ, zero, suc, ◌+◌, ◌*◌, ◌%◌, ◌≤◌, ◌<◌, ◌≡◌, ◌≢◌, List, length, set}
use Rattle.std.proofs.Common.{sym, ap, ap₂, ◌∙◌, add-one, arith, length-set}
use Rattle.std.proofs.Math.Decide.{ℕ_discrete}
use Rattle.field.specs.declared.Gf.{Gf}
use Rattle.field.specs.Field.{F, 𝟎, 𝟏, α, ◌⊕◌, ◌⊙◌, ⊕_self, ⊕-equal, ⊕-group, zero-⊕, ⊙_comm, ⊙-one}
use Rattle.field.specs.Field.{one-⊙, ⊙-ring, val, pow, pow-zero, pow-one, pow-suc}
use Rattle.field.proofs.Field.{⊙-factor}
use Rattle.field.specs.Field.{pow-add, pow_mul, one-pow}
use Rattle.field.proofs.Field.{power_apart}
use Rattle.series.specs.Sum.{sum, sum-none, sum-suc, sum_cong, sum_more, ⊙-sum}
use Rattle.series.specs.Series.{Series}
use Rattle.series.specs.Shift.{cut, cut_low, cut_unique}
use Rattle.series.specs.Degree.{below}
use Rattle.series.specs.Value.{value, value_cong}
use Rattle.series.specs.Array.{values, below-values, read-set-same, read-set-other}
use Rattle.settling.specs.Locator.{W, W-is}
use Rattle.settle.specs.PositionsTerm.{W-zero, W-add, terms, terms-at, terms-add, value-terms}

-- ---- every third term

unfoldable pub third : ℕ → ℕ → Series → F
third a m f = sum m (λ j. f (3 * j + a))

pub third-none : (a : ℕ) (f : Series) → third a 0 f ≡ 𝟎
unfolding third
third-none a f = sum-none _

third-suc : (a m : ℕ) (f : Series) → third a (suc m) f ≡ third a m f ⊕ f (3 * m + a)
unfolding third
third-suc a m f = sum-suc m _

pub third-more : (a m j : ℕ) (f : Series) → j ≡ 3 * m + a → third a (m + 1) f ≡ third a m f ⊕ f j
third-more a m j f is = rw (add-one, is) (third-suc a m f)

pub third-all : (a k m : ℕ) (f : Series) → below k f → k ≤ 3 * m → m ≤ 9 → third a 9 f ≡ third a m f
unfolding third
third-all a k m f b h l = sum_more m 9 _ l (λ j g _. b (3 * j + a) (omega arith))

thirds : (m : ℕ) (f : Series) → sum (3 * m) f ≡ third 0 m f ⊕ third 1 m f ⊕ third 2 m f
thirds zero f = sum-none f ∙ sym (rw (third-none, third-none, third-none, zero-⊕) (zero-⊕ 𝟎))
thirds (suc m) f =
    let e : 3 * suc m ≡ suc (suc (suc (3 * m))) = omega arith in
    let d : 3 * m + 0 ≡ 3 * m = omega arith in
    let d1 : 3 * m + 1 ≡ suc (3 * m) = omega arith in
    let d2 : 3 * m + 2 ≡ suc (suc (3 * m)) = omega arith in
    ap (λ n. sum n f) e
    ∙ rw (sum-suc, sum-suc, sum-suc, thirds m f, third-suc 0 m f, third-suc 1 m f, third-suc 2 m f, d, d1, d2)
    (simp ⊕-group)

-- by a third root of one
rotated : (a m : ℕ) (w : F) (f : Series) → pow w 3 ≡ 𝟏 → third a m (terms w f) ≡ pow w a ⊙ third a m f
unfolding third
rotated a m w f h = sum_cong m _ _ (λ j _. term j) ∙ sym (⊙-sum (pow w a) m _)
  where
    factor : (j : ℕ) → pow w (3 * j + a) ≡ pow w a
    factor j = pow-add w (3 * j) a ∙ ap (λ t. t ⊙ pow w a) (pow_mul w 3 j ∙ ap (λ t. pow t j) h ∙ one-pow j) ∙ one-⊙ _

    term : (j : ℕ) → terms w f (3 * j + a) ≡ pow w a ⊙ f (3 * j + a)
    term j = terms-at w f (3 * j + a) ∙ ap (λ t. f (3 * j + a) ⊙ t) (factor j) ∙ ⊙_comm _ _

abbrev pub three : F → F → F → F → F
three x a b c = a ⊕ x ⊙ (b ⊕ x ⊙ c)

pow-two : (x : F) → pow x 2 ≡ x ⊙ x
pow-two x = pow-suc x 1 ∙ ap (λ t. x ⊙ t) (pow-one x)

pub value-three : (k p q r : ℕ) (f g : Series) (a b c : F)
    → below k f → k ≤ 27 → pow (W q) 3 ≡ 𝟏 → r ≡ p + q → g ≡ terms (W p) f
    → a ≡ third 0 9 g → b ≡ third 1 9 g → c ≡ third 2 9 g → three (W q) a b c ≡ value k f (W r)
value-three k p q r f g a b c low h root is at ea eb ec =
    (λ i. three (W q) (ea i) (eb i) (ec i))
    ∙ sym (ap (λ n. value k f (W n)) is
    ∙ value-terms k 27 f (W (p + q)) low h
    ∙ ap (sum 27) (sym (ap (terms (W q)) at ∙ terms-add p q f))
    ∙ thirds 9 (terms (W q) g)
    ∙ rw (rotated 0 9 (W q) g root, rotated 1 9 (W q) g root, rotated 2 9 (W q) g root, pow-zero, pow-one, pow-two)
    (simp ⊙-ring))

-- ---- third roots of one

cube : (q : ℕ) → W (q + (q + q)) ≡ 𝟏 → pow (W q) 3 ≡ 𝟏
cube q h = pow-suc (W q) 2 ∙ ap (λ t. W q ⊙ t) (pow-two (W q) ∙ sym (W-add q q)) ∙ sym (W-add q (q + q)) ∙ h

W_255 : W 255 ≡ 𝟏
W_255 = W-is 255 (omega arith) ∙ pow-zero α

pub cube-zero : pow (W 0) 3 ≡ 𝟏
cube-zero = cube 0 W-zero

pub cube-one : pow (W 85) 3 ≡ 𝟏
cube-one = cube 85 W_255

pub cube-two : pow (W 170) 3 ≡ 𝟏
cube-two = cube 170 (W-add 255 255 ∙ ap₂ ◌⊙◌ W_255 W_255 ∙ ⊙-one 𝟏)

-- w³ + 1 = (w + 1)·(w² + w + 1), and w is not 1
square : W 85 ⊙ W 85 ≡ W 85 ⊕ 𝟏
square = ⊕-equal _ _ (⊙-factor (w ⊕ 𝟏) _ apart
    (product ∙ ap (λ t. t ⊕ 𝟏) (sym (pow-suc w 2 ∙ ap (λ t. w ⊙ t) (pow-two w)) ∙ cube-one) ∙ ⊕_self 𝟏))
  where
    w : F
    w = W 85

    apart : W 85 ⊕ 𝟏 ≢ 𝟎
    apart z = power_apart 170 0 (omega arith) (omega arith) (omega arith)
        (ap₂ ◌⊕◌ (sym (W-is 85 (omega arith))) (pow-zero α) ∙ z)

    product : (w ⊕ 𝟏) ⊙ (w ⊙ w ⊕ (w ⊕ 𝟏)) ≡ w ⊙ (w ⊙ w) ⊕ 𝟏
    product = simp ⊙-ring

module _ (a b c : F) where
  pub spread-zero : a ⊕ b ⊕ c ≡ three (W 0) a b c
  spread-zero = rw W-zero (simp ⊙-ring)

  pub spread-one : a ⊕ W 85 ⊙ b ⊕ W 85 ⊙ c ⊕ c ≡ three (W 85) a b c
  spread-one =
      let e : three (W 85) a b c ≡ a ⊕ W 85 ⊙ b ⊕ W 85 ⊙ W 85 ⊙ c = simp ⊙-ring in
      sym (e ∙ ap (λ t. a ⊕ W 85 ⊙ b ⊕ t ⊙ c) square ∙ simp ⊙-ring)

  pub spread-two : a ⊕ W 85 ⊙ b ⊕ b ⊕ W 85 ⊙ c ≡ three (W 170) a b c
  spread-two =
      let e : three (W 85 ⊕ 𝟏) a b c ≡ a ⊕ W 85 ⊙ b ⊕ b ⊕ (W 85 ⊙ W 85 ⊕ 𝟏) ⊙ c = simp ⊙-ring in
      sym (ap (λ t. three t a b c) (W-add 85 85 ∙ square) ∙ e
      ∙ ap (λ t. a ⊕ W 85 ⊙ b ⊕ b ⊕ (t ⊕ 𝟏) ⊙ c) square ∙ simp ⊙-ring)

-- ---- three places at a time

pub record Placed (p : ℕ) (f : Series) (l : List Gf) : Type 0 where
  pub long : length l ≡ 255
  pub at : (j : ℕ) → j < 255 → j % 85 < p → values l j ≡ f j

pub placed-none : (f : Series) (l : List Gf) → length l ≡ 255 → Placed 0 f l
placed-none f l h = record { long = h; at = λ j b z. absurd (omega arith) }

pub placed-more : {p : ℕ} {f : Series} {l : List Gf} (x y z : Gf)
    → Placed p f l → p < 85 → val x ≡ f p → val y ≡ f (p + 85) → val z ≡ f (p + 170)
    → Placed (p + 1) f (set (set (set l p x) (p + 85) y) (p + 170) z)
placed-more {p} {f} {l} x y z t h ex ey ez =
    record {
      long = length-set m (p + 170) z ∙ long2;
      at = λ j b r. go j b r (ℕ_discrete j (p + 170)) (ℕ_discrete j (p + 85)) (ℕ_discrete j p);
    }
  where
    n : List Gf
    n = set l p x

    m : List Gf
    m = set n (p + 85) y

    long1 : length n ≡ 255
    long1 = length-set l p x ∙ t.long

    long2 : length m ≡ 255
    long2 = length-set n (p + 85) y ∙ long1

    go : (j : ℕ) → j < 255 → j % 85 < p + 1 → Dec (j ≡ p + 170) → Dec (j ≡ p + 85) → Dec (j ≡ p)
        → values (set m (p + 170) z) j ≡ f j
    go j b r (yes e) d c = rw e (read-set-same val _ m (p + 170) z (omega (arith, long2)) ∙ ez)
    go j b r (no e) (yes d) c = read-set-other val _ m (p + 170) j z e
        ∙ rw d (read-set-same val _ n (p + 85) y (omega (arith, long1)) ∙ ey)
    go j b r (no e) (no d) (yes c) =
        read-set-other val _ m (p + 170) j z e ∙ read-set-other val _ n (p + 85) j y d
        ∙ rw c (read-set-same val _ l p x (omega (arith, t.long)) ∙ ex)
    go j b r (no e) (no d) (no c) =
        read-set-other val _ m (p + 170) j z e ∙ read-set-other val _ n (p + 85) j y d ∙ read-set-other val _ l p j x c
        ∙ t.at j b (omega arith)

-- values of g, which holds the first k coefficients of f
pub placed-all : (k : ℕ) (f g : Series) {l : List Gf} → g ≡ cut k f → Placed 85 (λ q. value k g (W q)) l
    → values l ≡ cut 255 (λ q. value k f (W q))
placed-all k f g {l} e t =
    sym (cut_unique 255 _ (values l) (λ j h. sym (at j h)) (λ j h. below-values 255 l t.long j h))
  where
    at : (j : ℕ) → j < 255 → values l j ≡ value k f (W j)
    at j h = t.at j h (omega arith) ∙ ap (λ s. value k s (W j)) e ∙ value_cong k _ _ (W j) (cut_low k f)
