-- GF(256): all that the promises of this crate speak of. Definitions only; their laws stand in the files
-- beside this one.
--
-- FORMAT 1: bytes as polynomials over the two-element field; the product is reduced modulo 285, and α is the byte 2.
--
--   F                the field values: polynomials over the two-element field with degree below 8
--   𝟎  𝟏  α          zero, one, and z itself
--   x ⊕ y            sum
--   x ⊙ y            product modulo 285
--   pow x n          x to the power n
--   inv x            the inverse; 𝟎 for 𝟎
--   log x            the k below 255 with pow α k ≡ x; 0 for 𝟎
--   of n, byte x     the value of a byte, and the byte of a value
--   is_zero x         whether x is 𝟎
--   val g            the value that a `Gf` of the code stands for
--   named            the values that have names: zero, one, α
--   power_table       the table of powers: entry k is the byte of α^k for k below 255, entry 255 is 0 (FORMAT 1.6)
--   log_table         the table of logarithms: entry b is the logarithm of the byte b, that of 0 being 0
use Rattle.std.specs.Prelude.{Bool, true, false, cond, List, [], ◌∷◌, ◌++◌, ℕ, zero, suc, ◌+◌, ◌*◌, ◌/◌, ◌%◌, eqb}
use Rattle.std.specs.Bool.{xor}
use Rattle.field.specs.declared.Gf.{Gf}

infixl 60 ◌⊕◌
infixl 70 ◌⊙◌
-- the coefficients of z^0, z^1, .. z^7
pub data F : Type 0 where
  poly : Bool → Bool → Bool → Bool → Bool → Bool → Bool → Bool → F

unfoldable pub 𝟎 : F
𝟎 = poly false false false false false false false false

unfoldable pub 𝟏 : F
𝟏 = poly true false false false false false false false

unfoldable pub α : F
α = poly false true false false false false false false

-- coefficients are added modulo 2
unfoldable pub ◌⊕◌ : F → F → F
poly a0 a1 a2 a3 a4 a5 a6 a7 ⊕ poly b0 b1 b2 b3 b4 b5 b6 b7 =
    poly (xor a0 b0) (xor a1 b1) (xor a2 b2) (xor a3 b3) (xor a4 b4) (xor a5 b5) (xor a6 b6) (xor a7 b7)

-- ---- the product: of polynomials of any degree, as lists of coefficients with that of z^0 first, then modulo 285

unfoldable pub plus : List Bool → List Bool → List Bool
plus [] q = q
plus (a ∷ p) [] = a ∷ p
plus (a ∷ p) (b ∷ q) = xor a b ∷ plus p q

-- (a + z p) q = a q + z (p q)
unfoldable pub times : List Bool → List Bool → List Bool
times [] q = []
times (false ∷ p) q = false ∷ times p q
times (true ∷ p) q = plus q (false ∷ times p q)

-- a coefficient times a value
unfoldable pub scale : Bool → F → F
scale false x = 𝟎
scale true x = x

-- z^8 modulo 285 = 2^8 + 2^4 + 2^3 + 2^2 + 1
unfoldable pub z⁸ : F
z⁸ = poly true false true true true false false false

-- a + z x
unfoldable pub horner : Bool → F → F
horner a (poly x0 x1 x2 x3 x4 x5 x6 x7) = poly a x0 x1 x2 x3 x4 x5 x6 ⊕ scale x7 z⁸

unfoldable pub modulo : List Bool → F
modulo [] = 𝟎
modulo (a ∷ p) = horner a (modulo p)

unfoldable pub coefficients : F → List Bool
coefficients (poly a0 a1 a2 a3 a4 a5 a6 a7) = a0 ∷ a1 ∷ a2 ∷ a3 ∷ a4 ∷ a5 ∷ a6 ∷ a7 ∷ []

unfoldable pub ◌⊙◌ : F → F → F
x ⊙ y = modulo (times (coefficients x) (coefficients y))

-- ---- powers and the inverse

unfoldable pub pow : F → ℕ → F
pow x zero = 𝟏
pow x (suc n) = x ⊙ pow x n

-- every value but 𝟎 has the power 255 equal to 𝟏
unfoldable pub inv : F → F
inv x = pow x 254

-- ---- bytes: bit i goes with z^i (FORMAT 1.1)

unfoldable pub is_odd : ℕ → Bool
is_odd n = eqb (n % 2) 1

unfoldable pub of : ℕ → F
of n =
    poly (is_odd n) (is_odd (n / 2)) (is_odd (n / 4)) (is_odd (n / 8)) (is_odd (n / 16)) (is_odd (n / 32))
    (is_odd (n / 64)) (is_odd (n / 128))

unfoldable pub bit : Bool → ℕ
bit false = 0
bit true = 1

unfoldable pub byte : F → ℕ
byte (poly a0 a1 a2 a3 a4 a5 a6 a7) =
    bit a0 + 2 * bit a1 + 4 * bit a2 + 8 * bit a3 + 16 * bit a4 + 32 * bit a5 + 64 * bit a6 + 128 * bit a7

unfoldable pub is_zero : F → Bool
is_zero x = eqb (byte x) 0

unfoldable pub val : Gf → F
val g = of g.0

-- ---- logarithms

-- the bytes of x, α x, α^2 x, .. , n of them
unfoldable pub powers : ℕ → F → List ℕ
powers zero x = []
powers (suc n) x = byte x ∷ powers n (α ⊙ x)

-- the index of the first b in a list, counted from i; 0 if there is none
unfoldable pub place : ℕ → ℕ → List ℕ → ℕ
place b i [] = 0
place b i (x ∷ xs) = let later = place b (suc i) xs in cond (eqb x b) i later

unfoldable pub log_of : ℕ → ℕ
log_of b = place b 0 (powers 255 𝟏)

unfoldable pub log : F → ℕ
log x = log_of (byte x)

-- ---- the named values and the two tables

unfoldable pub named : List F
named = 𝟎 ∷ 𝟏 ∷ α ∷ []

unfoldable pub power_table : List ℕ
power_table = powers 255 𝟏 ++ (0 ∷ [])

-- f i, f (i + 1), .. , n of them
unfoldable pub tabulate : ℕ → ℕ → (ℕ → ℕ) → List ℕ
tabulate zero i f = []
tabulate (suc n) i f = f i ∷ tabulate n (suc i) f

unfoldable pub log_table : List ℕ
log_table = tabulate 256 0 log_of
