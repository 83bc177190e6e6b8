-- What the three forms of the key-equation solver share: FORMAT 8.2 to 8.4.
--
--   swaps d k      whether an iteration with discrepancy d is a swap, and not a hold
--   k_swap, k_hold how k steps
--   len r k        the length L, half of r − k
--   ahead r f S    the sums of FORMAT 8.7, coefficient j: f_i × S_(r+j−i), i from j to r+j. Δ is this of Λ, Θ of B
--   or_one x       x, or 1 where x is 0: S'_r is or_one (S r)
use Rattle.std.specs.Prelude.{ℕ, suc, ◌+◌, ◌-◌, Bool, not, cond, ◌&&◌, ℤ, pos, neg_ℤ, ◌+ℤ◌, ◌-ℤ◌}
use Rattle.std.specs.Int.Signed.{non_neg, quot_z}
use Rattle.field.specs.Field.{F, 𝟏, ◌⊙◌, is_zero}
use Rattle.series.specs.Sum.{sum}
use Rattle.series.specs.Series.{Series}

-- FORMAT 8.4: an iteration with a discrepancy that is not 0 is a swap, k being 0 at least
unfoldable pub swaps : F → ℤ → Bool
swaps d k = not (is_zero d) && non_neg k

-- FORMAT 8.4: at a swap
abbrev pub k_swap : ℤ → ℤ
k_swap k = neg_ℤ k -ℤ pos 1

-- FORMAT 8.4: at a hold
abbrev pub k_hold : ℤ → ℤ
k_hold k = k +ℤ pos 1

unfoldable pub len : ℕ → ℤ → ℤ
len r k = quot_z (pos r -ℤ k) (pos 2)

-- the sum over i from a to b
unfoldable pub from_to : ℕ → ℕ → (ℕ → F) → F
from_to a b h = sum (suc b - a) (λ i. h (a + i))

unfoldable pub ahead : ℕ → Series → Series → Series
ahead r f S j = from_to j (r + j) (λ i. f i ⊙ S (r + j - i))

unfoldable pub or_one : F → F
or_one x = cond (is_zero x) 𝟏 x
