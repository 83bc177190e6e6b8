-- Powers of two up to 256, for loops that double what they have built.
--
--   Power w   w is a power of two, at most 256
--
-- Proved: the next one; that it is at most any other that is above w (power-fits); that w and a number below it add up
-- as field values.
use Rattle.std.specs.Prelude.{ℕ, suc, ◌+◌, ◌^◌, ◌≤◌, ◌<◌, ◌≡◌, refl}
use Rattle.std.proofs.Common.{sym, ap, ◌∙◌, arith}
use Rattle.std.proofs.Math.Decide.{dec_le}
use Rattle.std.proofs.Math.Nat.{two-pow-succ, pow-le-pow_right, one-le-pow}
use Rattle.field.specs.Field.{◌⊕◌, of}
use Rattle.field.proofs.Field.{of-high}

pub record Power (w : ℕ) : Type 0 where
  pub exponent : ℕ
  pub is : w ≡ 2 ^ exponent
  pub most : w ≤ 256

pub power-one : Power 1
power-one = record { exponent = 0; is = refl; most = omega arith }

pub power_16 : Power 16
power_16 = record { exponent = 4; is = refl; most = omega arith }

pub power_256 : Power 256
power_256 = record { exponent = 8; is = refl; most = omega arith }

room : (k m : ℕ) → 2 ^ k < 2 ^ m → 2 ^ k + 2 ^ k ≤ 2 ^ m
room k m h = go (dec_le m k)
  where
    go : Dec (m ≤ k) → 2 ^ k + 2 ^ k ≤ 2 ^ m
    go (yes l) = absurd (omega (arith, pow-le-pow_right {n = 2} (omega arith) l))
    go (no l) = omega (arith, two-pow-succ k, pow-le-pow_right {n = 2} (omega arith) {i = suc k} {j = m} (omega arith))

pub power-some : (w : ℕ) → Power w → 0 < w
power-some w p = rw p.is (one-le-pow p.exponent 2 (omega arith))

pub power-fits : (w n : ℕ) → Power w → Power n → w < n → w + w ≤ n
power-fits w n p q h = rw (p.is, q.is) (room p.exponent q.exponent (omega (arith, p.is, q.is)))

pub power-room : (w : ℕ) → Power w → w < 256 → (0 < w) × (w + w ≤ 256)
power-room w p h = (power-some w p, power-fits w 256 p power_256 h)

pub power-more : (w : ℕ) → Power w → w < 256 → Power (w + w)
power-more w p h =
    record {
      exponent = suc p.exponent;
      is = ap (λ (k : ℕ). k + k) p.is ∙ sym (two-pow-succ p.exponent);
      most = (power-room w p h).1;
    }

pub power-high : (w i : ℕ) → Power w → i < w → of (w + i) ≡ of i ⊕ of w
power-high w i p h = rw p.is (of-high p.exponent i (omega (arith, p.is)))
