-- The unsettled subwords, told by flags, and Lagrange's polynomials of them.
--
--   flag o i           entry i of an array of flags
--   others b i j       j passes the test b and is not i
--   product n b k      the product of α^k + α^j over the j below n that pass b
--   lagrange m b i k   Lagrange's polynomial at α^k: it is one at α^i, and zero at α^j for the other j below m
--                      that pass b
use Rattle.std.specs.Prelude.{ℕ, zero, suc, Bool, false, not, cond, ◌&&◌, List, eqb, get_or}
use Rattle.field.specs.Field.{F, 𝟏, α, ◌⊕◌, ◌⊙◌, pow, inv}

abbrev pub flag : List Bool → ℕ → Bool
flag o i = get_or o i false

abbrev pub others : (ℕ → Bool) → ℕ → ℕ → Bool
others b i j = b j && not (eqb j i)

unfoldable pub product : ℕ → (ℕ → Bool) → ℕ → F
product zero b k = 𝟏
product (suc n) b k = product n b k ⊙ cond (b n) (pow α k ⊕ pow α n) 𝟏

unfoldable pub lagrange : ℕ → (ℕ → Bool) → ℕ → ℕ → F
lagrange m b i k = product m (others b i) k ⊙ inv (product m (others b i) i)
