-- k as a signed number of the code.
--
-- Proved: a difference of two small numbers fits an i32, and is k where the second is twice the length.
use Rattle.std.specs.Prelude.{ℕ, zero, suc, ◌+◌, ◌-◌, ◌≤◌, ◌<◌, ◌^◌, ◌≡◌, refl, Bool, true, false, cond, ltb, pos}
use Rattle.std.specs.Prelude.{negsuc, ◌-ℤ◌}
use Rattle.std.proofs.Common.{sym, ap, ap₂, ◌∙◌, subst, add-zero, arith, le-ltb, SFits, to_z, of_z, to_z-of_z}
use Rattle.std.proofs.Math.Nat.{sub-zero}
use Rattle.std.proofs.Math.IntN.{sub_ℕ}
use Rattle.std.specs.Int.Signed.{mag}
use Rattle.std.specs.Int.{w32}
use Rattle.std.proofs.Math.Facts.{to_z_pos}
use Rattle.key_equation.specs.Length.{k_of}

difference : (m n : ℕ) → pos m -ℤ pos n ≡ sub_ℕ m n
difference m zero = ap pos (add-zero m ∙ sym (sub-zero m))
    ∙ ap (λ (t : Bool). cond t (negsuc (zero - suc m)) (pos (m - zero))) (sym (le-ltb m zero (omega arith)))
difference m (suc n) = refl

mag_sub : (m n : ℕ) → mag (sub_ℕ m n) ≤ m + n
mag_sub m n = go (ltb m n)
  where
    go : (t : Bool) → mag (cond t (negsuc (n - suc m)) (pos (m - n))) ≤ m + n
    go true = omega arith
    go false = omega arith

difference-fits : (m n : ℕ) → m + n < 2 ^ 31 → SFits w32 (pos m -ℤ pos n)
difference-fits m n h = record { sfits = rw (difference m n) (omega (arith, mag_sub m n)) }

-- two numbers cast to i32
cast : (m n : ℕ) → m + n < 2 ^ 31 → to_z w32 m -ℤ to_z w32 n ≡ pos m -ℤ pos n
cast m n h = ap₂ ◌-ℤ◌ (to_z_pos w32 {n = m} (omega arith)) (to_z_pos w32 {n = n} (omega arith))

pub cast_fits : (m n : ℕ) → m + n < 2 ^ 31 → SFits w32 (to_z w32 m -ℤ to_z w32 n)
cast_fits m n h = subst (SFits w32) (sym (cast m n h)) (difference-fits m n h)

pub cast_difference : (m n : ℕ) → m + n < 2 ^ 31 → to_z w32 (of_z w32 (to_z w32 m -ℤ to_z w32 n)) ≡ sub_ℕ m n
cast_difference m n h = to_z-of_z (cast_fits m n h) ∙ cast m n h ∙ difference m n

pub k_is : (r L twice : ℕ) → twice ≡ L + L → sub_ℕ r twice ≡ k_of r L
unfolding k_of
k_is r L twice e = ap (sub_ℕ r) e
