-- The locations of one, two or three changes from the locator.
--
--   e1, e2, e3                the elementary symmetric polynomials of three values
--   Factors Λ x y z           Λ is a multiple of (1 + x Z)(1 + y Z)(1 + z Z), by its first four coefficients
--   over Λ i                  its coefficient i over the constant one
--   Symmetric x y z s p a     s, p, a are these of x, y and z
--   Same a b c x y z          a, b, c are x, y, z in some order
--   quadratic w, cubic w      w² + w, w³ + w
--
-- What comes out if there are such values:
--
--   RootOf f k r              where k is any f w, it is f r
--   OneOfTwo s p r            where two different values have the sum s and the product p, r is one of them
--   OneOfThree p a r          where three values have the sum zero, that of pairs p and the product a, r is one of them
--   Two s p a b c             where two different values have the sum s and the product p, a, b, c are they and zero
--   Three s p q a b c         where three different values have the sums s, p and the product q, a, b, c are they
--   Finds Λ L a b c           where Λ has L factors, and no more, a, b, c are what they are made of; zero is none
use Rattle.std.specs.Prelude.{ℕ, ◌≡◌, ◌≢◌, ◌⊎◌}
use Rattle.field.specs.Field.{F, 𝟎, ◌⊕◌, ◌⊙◌, inv}
use Rattle.series.specs.Series.{Series}

abbrev pub e1 : F → F → F → F
e1 x y z = x ⊕ (y ⊕ z)

abbrev pub e2 : F → F → F → F
e2 x y z = x ⊙ y ⊕ (x ⊙ z ⊕ y ⊙ z)

abbrev pub e3 : F → F → F → F
e3 x y z = x ⊙ (y ⊙ z)

pub record Factors (Λ : Series) (x y z : F) : Type 0 where
  pub some : Λ 0 ≢ 𝟎
  pub sum : Λ 1 ≡ Λ 0 ⊙ e1 x y z
  pub pairs : Λ 2 ≡ Λ 0 ⊙ e2 x y z
  pub all : Λ 3 ≡ Λ 0 ⊙ e3 x y z

abbrev pub over : Series → ℕ → F
over Λ i = Λ i ⊙ inv (Λ 0)

pub record Symmetric (x y z s p a : F) : Type 0 where
  pub sum : e1 x y z ≡ s
  pub pairs : e2 x y z ≡ p
  pub all : e3 x y z ≡ a

pub data Same (a b c x y z : F) : Type 0 where
  xyz : a ≡ x → b ≡ y → c ≡ z → Same a b c x y z
  xzy : a ≡ x → b ≡ z → c ≡ y → Same a b c x y z
  yxz : a ≡ y → b ≡ x → c ≡ z → Same a b c x y z
  yzx : a ≡ y → b ≡ z → c ≡ x → Same a b c x y z
  zxy : a ≡ z → b ≡ x → c ≡ y → Same a b c x y z
  zyx : a ≡ z → b ≡ y → c ≡ x → Same a b c x y z

abbrev pub quadratic : F → F
quadratic w = w ⊙ w ⊕ w

abbrev pub cubic : F → F
cubic w = w ⊙ (w ⊙ w) ⊕ w

-- ---- what comes out

abbrev pub RootOf : (F → F) → F → F → Type 0
RootOf f k r = (w : F) → f w ≡ k → f r ≡ k

abbrev pub OneOfTwo : F → F → F → Type 0
OneOfTwo s p r = (x y : F) → x ≢ y → x ⊕ y ≡ s → x ⊙ y ≡ p → (r ≡ x) ⊎ (r ≡ y)

abbrev pub OneOfThree : F → F → F → Type 0
OneOfThree p a r = (x y z : F) → Symmetric x y z 𝟎 p a → (r ≡ x) ⊎ ((r ≡ y) ⊎ (r ≡ z))

abbrev pub Two : F → F → F → F → F → Type 0
Two s p a b c = (x y : F) → x ≢ y → x ⊕ y ≡ s → x ⊙ y ≡ p → Same a b c x y 𝟎

abbrev pub Three : F → F → F → F → F → F → Type 0
Three s p q a b c = (x y z : F) → x ≢ y → x ≢ z → y ≢ z → Symmetric x y z s p q → Same a b c x y z

pub record Finds (Λ : Series) (L : ℕ) (a b c : F) : Type 0 where
  pub one : L ≡ 1 → (x : F) → Factors Λ x 𝟎 𝟎 → Same a b c x 𝟎 𝟎
  pub two : L ≡ 2 → (x y : F) → x ≢ y → Factors Λ x y 𝟎 → Same a b c x y 𝟎
  pub three : L ≡ 3 → (x y z : F) → x ≢ y → x ≢ z → y ≢ z → Factors Λ x y z → Same a b c x y z
