-- At most three changes of a binary word, by their locations: α^p is that of position p, and zero is none.
--
--   Within n x            x is the location of a position below n, or zero
--   spike x               the pattern with one change, at the location x; none if x is zero
--   changed w x y z       the word w with the changes of three locations
--   Explained n S0 S2 S4 x y z   x, y and z are within n, and their odd powers add up to these syndromes
--   Changes n S0 S2 S4    no change, or one, two or three different locations that explain these syndromes
--   Tests n S0 S2 S4 x y z b     b says whether x, y and z do
--   Locates n S0 S2 S4 o   the locations in o do; where it has none, no changes do
use Rattle.std.specs.Prelude.{ℕ, ◌<◌, ◌≡◌, ◌≢◌, Bool, true, false, Option, Some, None}
use Rattle.std.proofs.Math.Logic.{ite}
use Rattle.field.specs.Field.{F, 𝟎, ◌⊕◌, ◌≟◌, pow, log, val}
use Rattle.series.specs.Series.{Series, O, ◌⊞◌}
use Rattle.series.specs.Shift.{zpow}
use Rattle.binary.specs.declared.locations.Locations.{Locations}

abbrev pub Within : ℕ → F → Type 0
Within n x = x ≢ 𝟎 → log x < n

unfoldable pub spike : F → Series
spike x = ite (x ≟ 𝟎) O (zpow (log x))

abbrev pub changed : Series → F → F → F → Series
changed w x y z = w ⊞ spike x ⊞ spike y ⊞ spike z

pub record Explained (n : ℕ) (S0 S2 S4 x y z : F) : Type 0 where
  pub within_x : Within n x
  pub within_y : Within n y
  pub within_z : Within n z
  pub first : x ⊕ (y ⊕ z) ≡ S0
  pub third : pow x 3 ⊕ (pow y 3 ⊕ pow z 3) ≡ S2
  pub fifth : pow x 5 ⊕ (pow y 5 ⊕ pow z 5) ≡ S4

pub data Changes (n : ℕ) (S0 S2 S4 : F) : Type 0 where
  none : S0 ≡ 𝟎 → S2 ≡ 𝟎 → S4 ≡ 𝟎 → Changes n S0 S2 S4
  one : (x : F) → x ≢ 𝟎 → Explained n S0 S2 S4 x 𝟎 𝟎 → Changes n S0 S2 S4
  two : (x y : F) → x ≢ 𝟎 → y ≢ 𝟎 → x ≢ y → Explained n S0 S2 S4 x y 𝟎 → Changes n S0 S2 S4
  three : (x y z : F) → x ≢ 𝟎 → y ≢ 𝟎 → z ≢ 𝟎 → x ≢ y → x ≢ z → y ≢ z → Explained n S0 S2 S4 x y z
      → Changes n S0 S2 S4

pub record Tests (n : ℕ) (S0 S2 S4 x y z : F) (b : Bool) : Type 0 where
  pub sound : b ≡ true → Explained n S0 S2 S4 x y z
  pub complete : b ≡ false → ¬ Explained n S0 S2 S4 x y z

abbrev pub Locates : ℕ → F → F → F → Option Locations → Type 0
Locates n S0 S2 S4 (Some l) = Explained n S0 S2 S4 (val l.0) (val l.1) (val l.2)
Locates n S0 S2 S4 None = ¬ Changes n S0 S2 S4
