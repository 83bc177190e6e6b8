-- What a table of multiples leaves of an array's symbols.
--
--   Leaves row t p l r       r is the remainder, by the polynomial of the table t, of the symbols of l from p on
--   Leaving row t from l p r   the same on the way down: p is not below `from`, nor above the symbols of l
--
-- Proved: one symbol up, and the row that the last symbol and the one fed in ask for, is `feed` (feeds). A loop from
-- the last symbol down keeps `Leaving`, whatever the width of the rows: it begins by leaving-none, goes on by
-- leaving-more, and ends by leaving-all.
use Rattle.std.specs.Prelude.{ℕ, ◌-◌, ◌≤◌, ◌<◌, ◌≡◌, List, length, get_or}
use Rattle.std.proofs.Common.{ap, ◌∙◌, arith}
use Rattle.field.specs.Field.{F, ◌⊕◌, of}
use Rattle.series.specs.Series.{Series, K, Z, ◌⊞◌, ◌⊠◌}
use Rattle.series.specs.Shift.{zpow, drop}
use Rattle.series.specs.Array.{bytes}
use Rattle.divider.specs.declared.packed.Packed.{Packed}
use Rattle.divider.specs.Packed.{packed, none, six-zero}
use Rattle.divider.specs.Multiples.{Rows, lower, Multiples}
use Rattle.divider.specs.DivisionRemainder.{feed, remainder, remainder-start, remainder-step}

abbrev pub Leaves : Rows → List ℕ → ℕ → List ℕ → Packed → Type 0
Leaves row t p l r = packed r ≡ remainder (lower row t) (length l - p) (drop p (bytes l))

pub feeds : (row : Rows) (t : List ℕ) (r m q : Series) (x i : ℕ)
    → Multiples row t → (of i ≡ r 47 ⊕ of x) × (i < 256) → m ≡ row t i
    → q ≡ Z ⊠ r ⊞ K (r 47) ⊠ zpow 48 ⊞ m → q ≡ feed (lower row t) r (of x)
unfolding feed
feeds row t r m q x i p (e, h) s o =
    o ∙ ap (λ (f : Series). Z ⊠ r ⊞ K (r 47) ⊠ zpow 48 ⊞ f) (s ∙ p.at i h ∙ ap (λ (a : F). K a ⊠ lower row t) e)

-- ---- from the last symbol down

pub record Leaving (row : Rows) (t : List ℕ) (from : ℕ) (l : List ℕ) (p : ℕ) (r : Packed) : Type 0 where
  pub low : from ≤ p
  pub high : p ≤ length l
  pub leaves : Leaves row t p l r

module _ {row : Rows} {t : List ℕ} {from : ℕ} {l : List ℕ} {p : ℕ} where
  pub leaving-none : length l ≡ p → from ≤ p → Leaving row t from l p none
  leaving-none e h = record { low = h; high = omega arith; leaves = remainder-start _ l p _ e six-zero }

  pub leaving-more : {r q : Packed} → Leaving row t from l p r → from < p
      → packed q ≡ feed (lower row t) (packed r) (of (get_or l (p - 1) 0)) → Leaving row t from l (p - 1) q
  leaving-more x h fed = record {
    low = omega arith;
    high = omega (arith, x.high);
    leaves = remainder-step _ l p _ _ (omega arith) x.high x.leaves fed;
  }

  pub leaving-all : {r : Packed} → Leaving row t from l p r → p ≤ from → Leaves row t from l r
  leaving-all x h = let same : p ≡ from = omega (arith, x.low) in rw same at x.leaves
