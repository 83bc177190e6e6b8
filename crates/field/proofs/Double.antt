-- Doubling a byte, bytes as sums of powers of two, bytes in two parts, and the last byte of a number.
--
-- Proved: a shift by one, with 29 added for the bit that falls out, is the product with α (of_twice, of_double); a
-- power of two and a number below it add up (of-high); a byte is its last k bits, and 2^k times what stands above them
-- (of_shift, of_parts); the value of a number is that of its last byte (of_mod).
use Rattle.std.specs.Prelude.{ℕ, zero, suc, ◌+◌, ◌*◌, ◌/◌, ◌%◌, ◌^◌, ◌<◌, ◌≡◌, false, T, eqb}
use Rattle.std.proofs.Common.{sym, ap, ap₂, ◌∙◌, div-add-mod', mod-lt, arith, eqb→eq}
use Rattle.std.proofs.Math.Bool.{xor}
use Rattle.std.proofs.Math.Nat.{one-le-pow, pow-le-pow_right, two-pow-succ}
use Rattle.std.specs.Int.Bits.{bit_xor, xor_shifted, xor_zero_r}
use Rattle.field.specs.Test.{all, all-at}
use Rattle.field.specs.Definition.{F, 𝟎, α, ◌⊕◌, plus, times, scale, z⁸, horner, modulo}
use Rattle.field.specs.Definition.{coefficients, ◌⊙◌, is_odd, of, bit, byte}
use Rattle.field.specs.Sum.{⊕_comm, zero-⊕}
use Rattle.field.specs.Product.{⊙_assoc, one-⊙}
use Rattle.field.specs.Byte.{of-byte, of_xor, of_one}

twice : ℕ → ℕ
twice n = bit_xor (n * 2 % 256) (n / 128 * 29)

twice_test : T (all 256 (λ n. eqb (byte (α ⊙ of n)) (twice n)))
unfolding all twice byte of bit is_odd 𝟎 α ◌⊙◌ times plus modulo horner scale z⁸ ◌⊕◌ coefficients xor
twice_test = tt

pub of_twice : (n : ℕ) → n < 256 → of (bit_xor (n * 2 % 256) (n / 128 * 29)) ≡ α ⊙ of n
unfolding twice
of_twice n h =
    ap of (sym (eqb→eq (byte (α ⊙ of n)) (twice n) (all-at 256 (λ n. eqb (byte (α ⊙ of n)) (twice n)) twice_test n h)))
    ∙ of-byte (α ⊙ of n)

pub of_double : (n : ℕ) → n < 128 → of (n + n) ≡ α ⊙ of n
of_double n h =
    let e : n * 2 % 256 ≡ n + n = omega arith in
    let z : n / 128 * 29 ≡ 0 = omega arith in
    sym (ap₂ (λ (a b : ℕ). of (bit_xor a b)) e z ∙ ap of (xor_zero_r (n + n))) ∙ of_twice n (omega arith)

pub of-high : (k i : ℕ) → i < 2 ^ k → of (2 ^ k + i) ≡ of i ⊕ of (2 ^ k)
of-high k i h =
    let e : 1 * 2 ^ k + i ≡ 2 ^ k + i = omega arith in
    let d : 1 * 2 ^ k ≡ 2 ^ k = omega arith in
    sym (ap of (xor_shifted 1 k i h ∙ e)) ∙ of_xor (1 * 2 ^ k) i ∙ ⊕_comm _ _ ∙ ap (λ (m : ℕ). of i ⊕ of m) d

-- ---- a byte in two parts

pub of_shift : (k n : ℕ) → k < 8 → n * 2 ^ k < 256 → of (n * 2 ^ k) ≡ of (2 ^ k) ⊙ of n
of_shift zero n l h =
    let e : n * 2 ^ 0 ≡ n = omega arith in
    ap of e ∙ sym (ap (λ (s : F). s ⊙ of n) of_one ∙ one-⊙ (of n))
of_shift (suc k) n l h =
    let e : n * 2 ^ suc k ≡ n * 2 ^ k + n * 2 ^ k = rw two-pow-succ (omega arith) in
    ap of e
    ∙ of_double (n * 2 ^ k) (omega arith)
    ∙ ap (λ (s : F). α ⊙ s) (of_shift k n (omega arith) (omega arith))
    ∙ sym (⊙_assoc α (of (2 ^ k)) (of n))
    ∙ ap (λ (s : F). s ⊙ of n) (sym (ap of (two-pow-succ k) ∙ of_double (2 ^ k) small))
  where
    small : 2 ^ k < 128
    small = omega (arith, pow-le-pow_right {n = 2} (omega arith) {i = k} {j = 6} (omega arith))

-- the last k bits, and what stands above them
pub of_parts : (k b : ℕ) → k < 8 → b < 256 → of b ≡ of (b % 2 ^ k) ⊕ of (2 ^ k) ⊙ of (b / 2 ^ k)
of_parts k b l h =
    let e : b / 2 ^ k * 2 ^ k + b % 2 ^ k ≡ b = div-add-mod' b (2 ^ k) in
    let some : 0 < 2 ^ k = one-le-pow k 2 (omega arith) in
    sym (ap of (xor_shifted (b / 2 ^ k) k (b % 2 ^ k) (mod-lt b some) ∙ e))
    ∙ of_xor (b / 2 ^ k * 2 ^ k) (b % 2 ^ k)
    ∙ ⊕_comm _ _
    ∙ ap (λ (s : F). of (b % 2 ^ k) ⊕ s) (of_shift k (b / 2 ^ k) l (omega (arith, e)))

-- ---- the last byte

even : (m : ℕ) → is_odd (m * 2) ≡ false
unfolding is_odd
even m = let e : m * 2 % 2 ≡ 0 = omega arith in ap (λ (k : ℕ). eqb k 1) e

of_256 : (m : ℕ) → of (m * 256) ≡ 𝟎
unfolding of 𝟎
of_256 m =
    let e0 : m * 256 ≡ m * 128 * 2 = omega arith in
    let e1 : m * 256 / 2 ≡ m * 64 * 2 = omega arith in
    let e2 : m * 256 / 4 ≡ m * 32 * 2 = omega arith in
    let e3 : m * 256 / 8 ≡ m * 16 * 2 = omega arith in
    let e4 : m * 256 / 16 ≡ m * 8 * 2 = omega arith in
    let e5 : m * 256 / 32 ≡ m * 4 * 2 = omega arith in
    let e6 : m * 256 / 64 ≡ m * 2 * 2 = omega arith in
    let e7 : m * 256 / 128 ≡ m * 2 = omega arith in
    rw (e7, e6, e5, e4, e3, e2, e1, e0) (simp even)

pub of_mod : (n : ℕ) → of (n % 256) ≡ of n
of_mod n =
    let e : n / 256 * 2 ^ 8 + n % 256 ≡ n = omega arith in
    sym (ap of (sym (xor_shifted (n / 256) 8 (n % 256) (omega arith) ∙ e))
    ∙ of_xor (n / 256 * 256) (n % 256)
    ∙ ap (λ (s : F). s ⊕ of (n % 256)) (of_256 (n / 256))
    ∙ zero-⊕ _)
