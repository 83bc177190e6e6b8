-- Reed-Solomon codes of one word: FORMAT 3.2 and 3.3. A word is a series of which the first n symbols are read. The
-- first root is α^f.
--
--   root f j              α^(f+j), the point of syndrome j
--   syndrome f n w j      the value of the word w at root j: S_j
--   InCode f n t w        w is in the code of capability t, FORMAT's strength
--   upper k w             w with zeros in its first k positions
--   check_symbols f n k w the symbols for the first k positions that make k syndromes zero, given w's symbols from
--                         position k on
--   systematic f n k w    w with its check symbols in place
use Rattle.std.specs.Prelude.{ℕ, ◌+◌, ◌*◌, ◌<◌, ◌≡◌}
use Rattle.field.specs.Field.{F, 𝟎, α, pow}
use Rattle.series.specs.Series.{Series, ◌⊞◌, ◌⊠◌}
use Rattle.series.specs.Shift.{zpow, drop}
use Rattle.series.specs.Value.{value}
use Rattle.series.specs.Interpolation.{interpolate}

-- FORMAT 2.7: the roots begin with α^f
unfoldable pub root : ℕ → ℕ → F
root f j = pow α (f + j)

unfoldable pub syndrome : ℕ → ℕ → Series → ℕ → F
syndrome f n w j = value n w (root f j)

-- FORMAT 3.3: S_j is 0 for every j below 2 × t
abbrev pub InCode : ℕ → ℕ → ℕ → Series → Type 0
InCode f n t w = (j : ℕ) → j < 2 * t → syndrome f n w j ≡ 𝟎

unfoldable pub upper : ℕ → Series → Series
upper k w = zpow k ⊠ drop k w

unfoldable pub check_symbols : ℕ → ℕ → ℕ → Series → Series
check_symbols f n k w = interpolate k (root f) (syndrome f n (upper k w))

unfoldable pub systematic : ℕ → ℕ → ℕ → Series → Series
systematic f n k w = check_symbols f n k w ⊞ upper k w
