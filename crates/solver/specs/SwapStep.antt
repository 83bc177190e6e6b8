-- k after a swap and a hold, from the length.
--
-- Proved: the test for a swap says that twice the length is at most r; how k goes on.
use Rattle.std.specs.Prelude.{ℕ, ◌+◌, ◌-◌, ◌≤◌, ◌≡◌, Bool, true, false, not, ◌&&◌, leb}
use Rattle.std.proofs.Common.{sym, ◌∙◌, true≢false, add-one, leb-true}
use Rattle.field.specs.Field.{F, is_zero}
use Rattle.key_equation.specs.Shared.{swaps, k_swap, k_hold}
use Rattle.key_equation.specs.Length.{k_of, k_of-swap, k_of-hold, swaps-of}

pub swap-room : (d : F) (r L : ℕ) → swaps d (k_of r L) ≡ true → L + L ≤ r
swap-room d r L e = leb-true (L + L) r (right (is_zero d) (leb (L + L) r) (sym (swaps-of d r L) ∙ e))
  where
    right : (a b : Bool) → (not a && b) ≡ true → b ≡ true
    right true b e = absurd (true≢false (sym e))
    right false b e = e

pub swap-k : (r L : ℕ) → L + L ≤ r → k_of (r + 1) (r + 1 - L) ≡ k_swap (k_of r L)
swap-k r L h = rw (add-one r) (sym (k_of-swap r L h))

pub hold-k : (r L : ℕ) → k_of (r + 1) L ≡ k_hold (k_of r L)
hold-k r L = rw (add-one r) (sym (k_of-hold r L))
