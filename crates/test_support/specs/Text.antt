-- The fields of a line that the test programs print. A text is the list of its bytes, as in `listing`.
--
--   number_text n         the number n after a space
--   difference_text a b   a − b after a space, with its sign if it is negative
--   each f n              the texts f 0, f 1, .., f (n − 1), one after the other
--   number_at s i         the number i of s
--   numbers_text s        the numbers of s, each after a space
--   change_text i a b     i and b, each after a space, if b is not a; else nothing
--   change_at x y i       position i of x and y
--   changes_text x y      the positions that x and y have both and where y differs from x, each with what y has there
use Rattle.std.specs.Prelude.{ℕ, zero, suc, ◌-◌, min, cond, List, [], ◌++◌, leb, eqb, length, get_or}
use Rattle.listing.specs.Definition.{ascii, decimal}

abbrev pub number_text : ℕ → List ℕ
number_text n = ascii " " ++ decimal n

abbrev pub difference_text : ℕ → ℕ → List ℕ
difference_text a b = cond (leb b a) (number_text (a - b)) (ascii " -" ++ decimal (b - a))

unfoldable pub each : (ℕ → List ℕ) → ℕ → List ℕ
each f zero = []
each f (suc n) = each f n ++ f n

abbrev pub number_at : List ℕ → ℕ → List ℕ
number_at s i = number_text (get_or s i 0)

abbrev pub numbers_text : List ℕ → List ℕ
numbers_text s = each (number_at s) (length s)

abbrev pub change_text : ℕ → ℕ → ℕ → List ℕ
change_text i a b = cond (eqb a b) [] (number_text i ++ number_text b)

abbrev pub change_at : List ℕ → List ℕ → ℕ → List ℕ
change_at x y i = change_text i (get_or x i 0) (get_or y i 0)

abbrev pub changes_text : List ℕ → List ℕ → List ℕ
changes_text x y = each (change_at x y) (min (length x) (length y))
