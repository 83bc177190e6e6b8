-- Tables of powers, and binary words as masks, from which values are taken.
--
--   PowersOf x t   entry p of the table t is the byte of x^p, for p below 255
--   cube, fifth    α³ and α⁵
--   Masks w l      w has at most 255 symbols, all of them bits, and l has them as masks, 0 and 255, then zeros
use Rattle.std.specs.Prelude.{ℕ, ◌*◌, ◌≤◌, ◌<◌, ◌≡◌, List, length, get_or}
use Rattle.field.specs.Field.{F, α, of, pow}

abbrev pub PowersOf : F → List ℕ → Type 0
PowersOf x t = (p : ℕ) → p < 255 → of (get_or t p 0) ≡ pow x p

abbrev pub cube : F
cube = pow α 3

abbrev pub fifth : F
fifth = pow α 5

pub record Masks (w l : List ℕ) : Type 0 where
  pub short : length w ≤ 255
  pub bit : (p : ℕ) → get_or w p 0 < 2
  pub mask : (p : ℕ) → p < 256 → get_or l p 0 ≡ get_or w p 0 * 255
