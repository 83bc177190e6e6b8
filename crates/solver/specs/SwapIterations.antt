-- Iterations one after the other.
--
--   iterated f u n m         m after f, n times, numbered from u on
--   Iterating f u v m r x    x is m after the iterations from u to r - 1, on the way to v
--
-- A loop over r from u to v keeps `Iterating`: it begins with iterating-none, goes on by iterating-more, and ends by
-- iterating-all.
use Prim.Native.Nat.{ℕ, zero, suc, ◌+◌, ◌-◌, ◌≤◌, ◌<◌}
use Rattle.std.specs.Prelude.{◌≡◌}
use Rattle.std.proofs.Math.Path.{ap, ap₂}
use Rattle.std.proofs.Common.{◌∙◌}
use native.Mathlib.Omega.{arith}

unfoldable pub iterated : {A : Type 0} → (ℕ → A → A) → ℕ → ℕ → A → A
iterated f u zero m = m
iterated f u (suc n) m = f (u + n) (iterated f u n m)

pub record Iterating {A : Type 0} (f : ℕ → A → A) (u v : ℕ) (m : A) (r : ℕ) (x : A) : Type 0 where
  pub low : u ≤ r
  pub high : r ≤ u + (v - u)
  pub is : x ≡ iterated f u (r - u) m

module _ {A : Type 0} {f : ℕ → A → A} {u v : ℕ} {m : A} where
  pub iterating-none : Iterating f u v m u m
  unfolding iterated
  iterating-none =
      let e : 0 ≡ u - u = omega arith in
      record { low = omega arith; high = omega arith; is = ap (λ n. iterated f u n m) e }

  pub iterating-more : {r : ℕ} {x y : A} → Iterating f u v m r x → r < v → y ≡ f r x → Iterating f u v m (r + 1) y
  unfolding iterated
  iterating-more {r} h l next =
      let e : suc (r - u) ≡ r + 1 - u = omega (arith, h.low) in
      let at : r ≡ u + (r - u) = omega (arith, h.low) in
      record {
        low = omega (arith, h.low);
        high = omega (arith, h.low);
        is = next ∙ ap₂ f at h.is ∙ ap (λ n. iterated f u n m) e;
      }

  -- x stands for a state whose view depends on the number of iterations
  pub iterating-all : {r : ℕ} (x : ℕ → A) → Iterating f u v m r (x r) → v ≤ r → x (u + (v - u)) ≡ iterated f u (v - u) m
  iterating-all {r} x h l =
      let e : u + (v - u) ≡ r = omega (arith, h.low, h.high) in
      let n : r - u ≡ v - u = omega (arith, h.low, h.high) in
      ap x e ∙ h.is ∙ ap (λ n. iterated f u n m) n
