-- The length L in place of k: k = r − 2L after r iterations. A program keeps L, a natural number; the
-- definitions keep k.
--
--   k_of r L   r − 2L
--
-- Proved: k at the start, at a hold (the length stays) and at a swap (it becomes r + 1 − L); an iteration is a swap if
-- its discrepancy is not 0 and 2L ≤ r; L is the length that `len` reads from k (len_of), and no other number has its k
-- (k_of-length).
use Rattle.std.specs.Prelude.{ℕ, zero, suc, ◌+◌, ◌-◌, ◌≤◌, ◌<◌, ◌/◌, ◌≡◌, refl, ◌≢◌, true, false, not, ◌&&◌, ℤ, pos}
use Rattle.std.specs.Prelude.{negsuc, ◌-ℤ◌, leb}
use Rattle.std.proofs.Common.{sym, ap, ap₂, ◌∙◌, arith, le-leb, lt-ltb, le-ltb}
use Rattle.std.proofs.Math.Bool.{and-false}
use Rattle.std.proofs.Math.Decide.{dec_le}
use Rattle.std.proofs.Math.IntN.{sub_ℕ, +ℤ-neg_ℤ_cancel, +ℤ_one, -ℤ_one}
use Rattle.std.specs.Int.Signed.{non_neg, quot_z, mag}
use Rattle.std.proofs.lemmas.Bool.{lt-leb}
use Rattle.field.specs.Field.{F, 𝟎, is_zero, is_zero_yes, is_zero_no}
use Rattle.key_equation.specs.Shared.{swaps, k_swap, k_hold, len}

unfoldable pub k_of : ℕ → ℕ → ℤ
k_of r L = sub_ℕ r (L + L)

-- ---- the two signs

k_of_pos : (r L n : ℕ) → r ≡ L + L + n → k_of r L ≡ pos n
unfolding k_of
k_of_pos r L n e =
    let m : r - (L + L) ≡ n = omega arith in
    rw (le-ltb r (L + L) (omega arith)) (ap pos m)

k_of_neg : (r L n : ℕ) → L + L ≡ r + suc n → k_of r L ≡ negsuc n
unfolding k_of
k_of_neg r L n e =
    let m : L + L - suc r ≡ n = omega arith in
    rw (lt-ltb r (L + L) (omega arith)) (ap negsuc m)

-- 2L ≤ r, or not, with the difference
by_sign : (P : Type 0) (r L : ℕ) → ((n : ℕ) → r ≡ L + L + n → P) → ((n : ℕ) → L + L ≡ r + suc n → P) → P
by_sign P r L p q = go (dec_le (L + L) r)
  where
    go : Dec (L + L ≤ r) → P
    go (yes l) = p (r - (L + L)) (omega arith)
    go (no l) = q (L + L - suc r) (omega arith)

-- ---- how k steps

pub k_of-start : k_of 0 0 ≡ pos 0
k_of-start = k_of_pos 0 0 0 refl

pub k_of-hold : (r L : ℕ) → k_hold (k_of r L) ≡ k_of (suc r) L
k_of-hold r L = by_sign _ r L at_pos at_neg
  where
    at_pos : (n : ℕ) → r ≡ L + L + n → k_hold (k_of r L) ≡ k_of (suc r) L
    at_pos n e = ap k_hold (k_of_pos r L n e) ∙ sym (k_of_pos (suc r) L (n + 1) (omega arith))

    at_neg : (n : ℕ) → L + L ≡ r + suc n → k_hold (k_of r L) ≡ k_of (suc r) L
    at_neg zero e = ap k_hold (k_of_neg r L 0 e) ∙ sym (k_of_pos (suc r) L 0 (omega arith))
    at_neg (suc n) e = ap k_hold (k_of_neg r L (suc n) e) ∙ +ℤ_one (negsuc (suc n))
        ∙ sym (k_of_neg (suc r) L n (omega arith))

pub k_of-swap : (r L : ℕ) → L + L ≤ r → k_swap (k_of r L) ≡ k_of (suc r) (suc r - L)
k_of-swap r L h =
    let n : ℕ = r - (L + L) in
    ap k_swap (k_of_pos r L n (omega arith)) ∙ at_pos n ∙ sym (k_of_neg (suc r) (suc r - L) n (omega arith))
  where
    at_pos : (n : ℕ) → k_swap (pos n) ≡ negsuc n
    at_pos zero = refl
    at_pos (suc n) = -ℤ_one (negsuc n)

-- ---- the test for a swap

pub swaps-of : (d : F) (r L : ℕ) → swaps d (k_of r L) ≡ not (is_zero d) && leb (L + L) r
unfolding swaps
swaps-of d r L = ap (λ t. not (is_zero d) && t) (by_sign _ r L
    (λ n e. ap non_neg (k_of_pos r L n e) ∙ sym (le-leb (L + L) r (omega arith)))
    (λ n e. ap non_neg (k_of_neg r L n e) ∙ sym (lt-leb (L + L) r (omega arith))))

pub swaps-of_yes : (d : F) (r L : ℕ) → d ≢ 𝟎 → L + L ≤ r → swaps d (k_of r L) ≡ true
swaps-of_yes d r L h l = swaps-of d r L ∙ rw (is_zero_no d h, le-leb (L + L) r l)

pub swaps-of-zero : (d : F) (r L : ℕ) → d ≡ 𝟎 → swaps d (k_of r L) ≡ false
swaps-of-zero d r L e = swaps-of d r L ∙ rw (is_zero_yes d e)

pub swaps-of-long : (d : F) (r L : ℕ) → r < L + L → swaps d (k_of r L) ≡ false
swaps-of-long d r L l = swaps-of d r L ∙ rw (lt-leb (L + L) r l, and-false)

-- ---- the length read from k

pub len_of : (r L : ℕ) → len r (k_of r L) ≡ pos L
unfolding len
len_of r L = by_sign _ r L
    (λ n e. ap₂ halved e (k_of_pos r L n e) ∙ ap (λ d. quot_z d (pos 2)) (+ℤ-neg_ℤ_cancel (pos (L + L)) (pos n)) ∙ half)
    (λ n e. ap (halved r) (k_of_neg r L n e) ∙ ap (λ m. pos (m / 2)) (sym e) ∙ half)
  where
    halved : ℕ → ℤ → ℤ
    halved r k = quot_z (pos r -ℤ k) (pos 2)

    half : pos ((L + L) / 2) ≡ pos L
    half = let e : (L + L) / 2 ≡ L = omega arith in ap pos e

pub k_of-length : (r l L : ℕ) (k : ℤ) → k_of r l ≡ k → len r k ≡ pos L → l ≡ L
k_of-length r l L k e is = ap mag (sym (len_of r l) ∙ ap (len r) e ∙ is)
