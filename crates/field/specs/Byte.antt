-- Bytes and values: `of` and `byte` undo each other below 256, and exclusive or of bytes is the sum of values.
--
-- Proved: of-byte, byte_of, byte_lt, both are injective, of_xor; zero, one and α are the bytes 0, 1 and 2.
-- Tool:   `x ≟ y` decides equality of values.
use Rattle.std.specs.Prelude.{◌≡◌, refl, Bool, true, false, ◌≢◌, ℕ, zero, suc, ◌^◌, ◌/◌, ◌%◌, ◌<◌, T, eqb}
use Rattle.std.proofs.Common.{sym, ap, ap₂, ◌∙◌, arith, eqb-true, eq-eqb, ne_eqb, eqb→eq}
use Rattle.std.proofs.Math.Bool.{xor}
use Rattle.std.proofs.Math.Decide.{ℕ_discrete}
use Rattle.std.proofs.lemmas.Bool.{eqb-false}
use Rattle.std.specs.Int.Bits.{bit_xor, differ, xor_step}
use Rattle.std.proofs.lemmas.Nat.{xor_shr, xor_lt}
use Rattle.field.specs.Test.{all, all-at}
use Rattle.field.specs.declared.Gf.{Gf}
use Rattle.field.specs.Definition.{F, poly, 𝟎, 𝟏, α, ◌⊕◌, is_odd, of, bit, byte, is_zero, val}

infix 40 ◌≟◌
bit_lt : (a : Bool) → bit a < 2
unfolding bit
bit_lt true = omega arith
bit_lt false = omega arith

is_odd-bit : (n : ℕ) (a : Bool) → n % 2 ≡ bit a → is_odd n ≡ a
unfolding is_odd bit
is_odd-bit n true e = rw e refl
is_odd-bit n false e = rw e refl

pub of-byte : (x : F) → of (byte x) ≡ x
unfolding of byte
of-byte (poly a0 a1 a2 a3 a4 a5 a6 a7) =
    let h0 : bit a0 < 2 = bit_lt a0 in
    let h1 : bit a1 < 2 = bit_lt a1 in
    let h2 : bit a2 < 2 = bit_lt a2 in
    let h3 : bit a3 < 2 = bit_lt a3 in
    let h4 : bit a4 < 2 = bit_lt a4 in
    let h5 : bit a5 < 2 = bit_lt a5 in
    let h6 : bit a6 < 2 = bit_lt a6 in
    let h7 : bit a7 < 2 = bit_lt a7 in
    λ i.
    poly (is_odd-bit n a0 (omega arith) i) (is_odd-bit (n / 2) a1 (omega arith) i) (is_odd-bit (n / 4) a2 (omega
    arith) i)
    (is_odd-bit (n / 8) a3 (omega arith) i) (is_odd-bit (n / 16) a4 (omega arith) i)
    (is_odd-bit (n / 32) a5 (omega arith) i)
    (is_odd-bit (n / 64) a6 (omega arith) i) (is_odd-bit (n / 128) a7 (omega arith) i)
  where
    n : ℕ
    n = byte (poly a0 a1 a2 a3 a4 a5 a6 a7)

pub byte_lt : (x : F) → byte x < 256
unfolding byte
byte_lt (poly a0 a1 a2 a3 a4 a5 a6 a7) =
    omega (arith, bit_lt a0, bit_lt a1, bit_lt a2, bit_lt a3, bit_lt a4, bit_lt a5, bit_lt a6, bit_lt a7)

byte-of_test : T (all 256 (λ n. eqb (byte (of n)) n))
unfolding all byte of bit is_odd
byte-of_test = tt

pub byte_of : (n : ℕ) → n < 256 → byte (of n) ≡ n
byte_of n h = eqb→eq (byte (of n)) n (all-at 256 (λ n. eqb (byte (of n)) n) byte-of_test n h)

pub byte_inj : (x y : F) → byte x ≡ byte y → x ≡ y
byte_inj x y e = sym (of-byte x) ∙ ap of e ∙ of-byte y

pub of_inj : (m n : ℕ) → m < 256 → n < 256 → of m ≡ of n → m ≡ n
of_inj m n hm hn e = sym (byte_of m hm) ∙ ap byte e ∙ byte_of n hn

-- ---- the sum is exclusive or

differ_lt : (m n : ℕ) → m < 2 → n < 2 → differ m n < 2
differ_lt zero n h k = k
differ_lt (suc m) zero h k = h
differ_lt (suc zero) (suc zero) h k = omega arith
differ_lt (suc zero) (suc (suc n)) h k = absurd (omega arith)
differ_lt (suc (suc m)) (suc n) h k = absurd (omega arith)

eqb_differ : (m n : ℕ) → m < 2 → n < 2 → eqb (differ m n) 1 ≡ xor (eqb m 1) (eqb n 1)
unfolding xor
eqb_differ zero zero h k = refl
eqb_differ zero (suc zero) h k = refl
eqb_differ (suc zero) zero h k = refl
eqb_differ (suc zero) (suc zero) h k = refl
eqb_differ zero (suc (suc n)) h k = absurd (omega arith)
eqb_differ (suc zero) (suc (suc n)) h k = absurd (omega arith)
eqb_differ (suc (suc m)) n h k = absurd (omega arith)

is_odd-xor : (a b : ℕ) → is_odd (bit_xor a b) ≡ xor (is_odd a) (is_odd b)
unfolding is_odd
is_odd-xor a b =
    let e : bit_xor a b % 2 ≡ differ (a % 2) (b % 2) =
    omega (arith, xor_step a b, differ_lt (a % 2) (b % 2) (omega arith) (omega arith)) in
    ap (λ (k : ℕ). eqb k 1) e ∙ eqb_differ (a % 2) (b % 2) (omega arith) (omega arith)

-- bit k of both
is_odd_shr : (a b k : ℕ) → is_odd (bit_xor a b / 2 ^ k) ≡ xor (is_odd (a / 2 ^ k)) (is_odd (b / 2 ^ k))
is_odd_shr a b k = ap is_odd (xor_shr a b k) ∙ is_odd-xor (a / 2 ^ k) (b / 2 ^ k)

-- of any two numbers
pub of_xor : (a b : ℕ) → of (bit_xor a b) ≡ of a ⊕ of b
unfolding of ◌⊕◌
of_xor a b =
    λ i. poly (is_odd-xor a b i) (is_odd_shr a b 1 i) (is_odd_shr a b 2 i) (is_odd_shr a b 3 i) (is_odd_shr a b 4 i)
    (is_odd_shr a b 5 i) (is_odd_shr a b 6 i) (is_odd_shr a b 7 i)

pub byte-xor : (x y : F) → byte (x ⊕ y) ≡ bit_xor (byte x) (byte y)
byte-xor x y =
    ap byte (sym (of_xor (byte x) (byte y) ∙ ap₂ ◌⊕◌ (of-byte x) (of-byte y)))
    ∙ byte_of (bit_xor (byte x) (byte y)) (xor_lt 8 (byte x) (byte y) (byte_lt x) (byte_lt y))

-- ---- zero, one and α

pub of_zero : of 0 ≡ 𝟎
unfolding of is_odd 𝟎
of_zero = refl

pub of_one : of 1 ≡ 𝟏
unfolding of is_odd 𝟏
of_one = refl

pub of_two : of 2 ≡ α
unfolding of is_odd α
of_two = refl

pub byte-zero : byte 𝟎 ≡ 0
byte-zero = ap byte (sym of_zero) ∙ byte_of 0 (omega arith)

pub of_nonzero : (n : ℕ) → n < 256 → n ≢ 0 → of n ≢ 𝟎
of_nonzero n h ne e = ne (of_inj n 0 h (omega arith) (e ∙ sym of_zero))

-- ---- equality is decided on the bytes

unfoldable pub ◌≟◌ : (x y : F) → Dec (x ≡ y)
x ≟ y = go (ℕ_discrete (byte x) (byte y))
  where
    go : Dec (byte x ≡ byte y) → Dec (x ≡ y)
    go (yes e) = yes (byte_inj x y e)
    go (no e) = no (λ h. e (ap byte h))

pub is_zero_yes : (x : F) → x ≡ 𝟎 → is_zero x ≡ true
unfolding is_zero
is_zero_yes x e = eq-eqb (byte x) 0 (ap byte e ∙ byte-zero)

pub is_zero_no : (x : F) → x ≢ 𝟎 → is_zero x ≡ false
unfolding is_zero
is_zero_no x h = ne_eqb (byte x) 0 (λ e. h (byte_inj x 𝟎 (e ∙ sym byte-zero)))

pub is_zero_true : (x : F) → is_zero x ≡ true → x ≡ 𝟎
unfolding is_zero
is_zero_true x e = byte_inj x 𝟎 (eqb-true (byte x) 0 e ∙ sym byte-zero)

pub is_zero_false : (x : F) → is_zero x ≡ false → x ≢ 𝟎
unfolding is_zero
is_zero_false x e z = eqb-false (byte x) 0 e (ap byte z ∙ byte-zero)

-- ---- the values of a `Gf`

pub val_of : (g : Gf) → val g ≡ of g.0
unfolding val
val_of g = refl

pub val-is-zero : (g : Gf) → g.0 ≡ 0 → val g ≡ 𝟎
unfolding val
val-is-zero g e = ap of e ∙ of_zero

pub val_nonzero : (g : Gf) → g.0 < 256 → g.0 ≢ 0 → val g ≢ 𝟎
unfolding val
val_nonzero g h ne = of_nonzero g.0 h ne

pub val_inj : (g h : Gf) → g.0 < 256 → h.0 < 256 → val g ≡ val h → g ≡ h
val_inj g h p q e = ap (λ (n : ℕ). record { 0 = n }) (of_inj g.0 h.0 p q (sym (val_of g) ∙ e ∙ val_of h))

pub val-zero : val (record { 0 = 0 }) ≡ 𝟎
unfolding val
val-zero = of_zero

pub val-one : val (record { 0 = 1 }) ≡ 𝟏
unfolding val
val-one = of_one

pub val-alpha : val (record { 0 = 2 }) ≡ α
unfolding val
val-alpha = of_two
