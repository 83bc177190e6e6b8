-- A rule for every number below n, by one test that antt computes.
--
--   all n f      f i for every i below n
use Rattle.std.specs.Prelude.{◌≡◌, Bool, true, false, ◌&&◌, ℕ, zero, suc, ◌<◌, T}
use Rattle.std.proofs.Math.Decide.{ℕ_discrete}
use Rattle.std.proofs.Common.{arith}

unfoldable pub all : ℕ → (ℕ → Bool) → Bool
all zero f = true
all (suc n) f = f n && all n f

pub and_both : (a b : Bool) → T (a && b) → T a × T b
and_both true b t = (tt, t)
and_both false b t = absurd t

pub all-at : (n : ℕ) (f : ℕ → Bool) → T (all n f) → (i : ℕ) → i < n → T (f i)
unfolding all
all-at zero f t i h = absurd (omega arith)
all-at (suc n) f t i h = go (ℕ_discrete i n) (all-at n f (and_both (f n) (all n f) t).1 i)
  where
    go : Dec (i ≡ n) → (i < n → T (f i)) → T (f i)
    go (yes e) below = rw e (and_both (f n) (all n f) t).0
    go (no e) below = below (omega arith)
