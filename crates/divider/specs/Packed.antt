-- Symbols packed in words of 64 bits, the first symbol lowest.
--
--   Word a           a is below 2^64
--   up a, out a      the word a one symbol up, and its last symbol, which falls out
--   digits m         the number m's digits in base 256 as a series
--   join a f         eight symbols of the word a, then f
--   six a b c d e f  forty-eight symbols in six words
--   packed r         the same for a `Packed`
--   tops r           the same without its first two words: zeros for these
--   none             no word is set
--
-- Proved: exclusive or of words is the sum (six-xor); a shift by one symbol, with the symbol that falls out of a word
-- carried into the next, is the product with z (six-up, six_shifted); the last symbol (six-top); zeros in the first two
-- words (packed-tops, tops-low); a word from its symbols, the last first (pack-more), six words from 48 symbols
-- (six_pack) and back (six_spread).
use Rattle.std.specs.Prelude.{ℕ, zero, suc, ◌+◌, ◌-◌, ◌*◌, ◌/◌, ◌%◌, ◌^◌, ◌<◌, ◌≡◌, refl}
use Rattle.std.proofs.Common.{sym, ap, ap₂, ◌∙◌, mul_assoc, pow-suc, arith}
use Rattle.std.proofs.Math.Path.{fun_ext}
use Rattle.std.specs.Int.Bits.{bit_xor, xor_shifted}
use Rattle.std.proofs.lemmas.Nat.{xor_shr, xor_lt}
use Rattle.field.specs.Field.{𝟎, ◌⊕◌, of, of_xor, of_zero, of_inj, zero-⊕}
use Rattle.field.proofs.Field.{of_mod}
use Rattle.series.specs.Series.{Series, O, K, Z, ◌⊞◌, ◌⊠◌, tail, ⊠-ring, ⊞_lc, ⊠_comm, O-at, K_at0, K-suc, ⊞-at, ⊞_comm}
use Rattle.series.specs.Series.{Z-⊠_at0, Z-⊠-at, one-⊠, ⊠_assoc}
use Rattle.series.specs.Shift.{zpow, drop, cut, zpow-zero, zpow-suc, zpow-add, zpow-at, zpow_divide, zpow-low}
use Rattle.series.specs.Shift.{drop_at, drop-none, cut_high, cut_head}
use Rattle.series.specs.Degree.{below}
use Rattle.divider.specs.declared.packed.Packed.{Packed}
use Rattle.kernel.specs.Store.{cut-join}

abbrev pub Word : ℕ → Type 0
Word a = a < 18446744073709551616

abbrev pub up : ℕ → ℕ
up a = a * 256 % 18446744073709551616

abbrev pub out : ℕ → ℕ
out a = a / 72057594037927936

-- ---- the digits of a number

unfoldable pub digits : ℕ → Series
digits m zero = of m
digits m (suc i) = digits (m / 256) i

pub digits_at0 : (m : ℕ) → digits m 0 ≡ of m
unfolding digits
digits_at0 m = refl

pub digits-next : (m i : ℕ) → digits (m / 256) i ≡ digits m (suc i)
unfolding digits
digits-next m i = refl

pub digits-zero : digits 0 ≡ O
digits-zero = fun_ext (λ i. at_i i ∙ sym (O-at i))
  where
    at_i : (i : ℕ) → digits 0 i ≡ 𝟎
    at_i zero = digits_at0 0 ∙ of_zero
    at_i (suc i) = sym (digits-next 0 i) ∙ at_i i

digits-xor : (a b : ℕ) → digits (bit_xor a b) ≡ digits a ⊞ digits b
unfolding digits
digits-xor a b = fun_ext (λ i. at_i i a b ∙ sym (⊞-at (digits a) (digits b) i))
  where
    at_i : (i a b : ℕ) → digits (bit_xor a b) i ≡ digits a i ⊕ digits b i
    at_i zero a b = of_xor a b
    at_i (suc i) a b = ap (λ (m : ℕ). digits m i) (xor_shr a b 8) ∙ at_i i (a / 256) (b / 256)

-- a byte has one digit
pub digits-byte : (c : ℕ) → c < 256 → digits c ≡ K (of c)
digits-byte c h = fun_ext at_i
  where
    at_i : (i : ℕ) → digits c i ≡ K (of c) i
    at_i zero = digits_at0 c ∙ sym (K_at0 (of c))
    at_i (suc i) =
        let e : c / 256 ≡ 0 = omega arith in
        sym (digits-next c i) ∙ ap (λ (m : ℕ). digits m i) e ∙ ap (λ (f : Series). f i) digits-zero
        ∙ O-at i ∙ sym (K-suc (of c) i)

digits_256 : (m : ℕ) → digits (m * 256) ≡ Z ⊠ digits m
digits_256 m = fun_ext at_i
  where
    at_i : (i : ℕ) → digits (m * 256) i ≡ (Z ⊠ digits m) i
    at_i zero =
        let e : m * 256 % 256 ≡ 0 = omega arith in
        digits_at0 (m * 256) ∙ sym (of_mod (m * 256)) ∙ ap of e ∙ of_zero ∙ sym (Z-⊠_at0 (digits m))
    at_i (suc i) =
        let e : m * 256 / 256 ≡ m = omega arith in
        sym (digits-next (m * 256) i) ∙ ap (λ (k : ℕ). digits k i) e ∙ sym (Z-⊠-at (digits m) i)

digits_up : (n m : ℕ) → digits (m * 256 ^ n) ≡ zpow n ⊠ digits m
digits_up zero m =
    let e : m * 256 ^ 0 ≡ m = omega arith in
    ap digits e ∙ sym (ap (λ (f : Series). f ⊠ digits m) zpow-zero ∙ one-⊠ (digits m))
digits_up (suc n) m =
    let e : m * 256 ^ suc n ≡ m * 256 ^ n * 256 = ap (λ (k : ℕ). m * k) (pow-suc 256 n)
    ∙ sym (mul_assoc m (256 ^ n) 256) in
    ap digits e ∙ digits_256 (m * 256 ^ n) ∙ rw (digits_up n m, zpow-suc) (simp ⊠-ring)

-- a number in two: its last eight digits and the others
digits_split : (m : ℕ) → digits m ≡ digits (m % 18446744073709551616) ⊞ zpow 8 ⊠ digits (m / 18446744073709551616)
digits_split m =
    let e : m / 18446744073709551616 * 2 ^ 64 + m % 18446744073709551616 ≡ m = omega arith in
    ap digits (sym (xor_shifted (m / 18446744073709551616) 64 (m % 18446744073709551616) (omega arith) ∙ e))
    ∙ digits-xor (m / 18446744073709551616 * 2 ^ 64) (m % 18446744073709551616)
    ∙ ap (λ (f : Series). f ⊞ digits (m % 18446744073709551616)) (digits_up 8 (m / 18446744073709551616))
    ∙ ⊞_comm _ _

-- one symbol up: what stays in the word, and what falls out
digits_shift : (m : ℕ) → digits (up m) ⊞ zpow 8 ⊠ digits (out m) ≡ Z ⊠ digits m
digits_shift m =
    let e : m * 256 / 18446744073709551616 ≡ out m = omega arith in
    ap (λ (k : ℕ). digits (up m) ⊞ zpow 8 ⊠ digits k) (sym e) ∙ sym (digits_split (m * 256)) ∙ digits_256 m

digits_last : (m : ℕ) → digits m 7 ≡ of (out m)
unfolding digits
digits_last m =
    let e : m / 256 / 256 / 256 / 256 / 256 / 256 / 256 ≡ out m = omega arith in
    ap of e

pub below-digits : (m : ℕ) → Word m → below 8 (digits m)
unfolding digits
below-digits m h i l =
    let e : i ≡ suc (suc (suc (suc (suc (suc (suc (suc (i - 8)))))))) = omega arith in
    let z : m / 256 / 256 / 256 / 256 / 256 / 256 / 256 / 256 ≡ 0 = omega arith in
    ap (digits m) e ∙ ap (λ (k : ℕ). digits k (i - 8)) z ∙ ap (λ (f : Series). f (i - 8)) digits-zero ∙ O-at (i - 8)

-- ---- eight symbols, then others

abbrev pub join : ℕ → Series → Series
join a f = digits a ⊞ zpow 8 ⊠ f

abbrev pub six : ℕ → ℕ → ℕ → ℕ → ℕ → ℕ → Series
six a b c d e f = join a (join b (join c (join d (join e (digits f)))))

abbrev pub packed : Packed → Series
packed r = six r.0 r.1 r.2 r.3 r.4 r.5

abbrev pub tops : Packed → Series
tops r = six 0 0 r.2 r.3 r.4 r.5

abbrev pub none : Packed
none = record { 0 = 0; 1 = 0; 2 = 0; 3 = 0; 4 = 0; 5 = 0 }

join-at : (a : ℕ) (f : Series) (i : ℕ) → Word a → join a f (8 + i) ≡ f i
join-at a f i h = ⊞-at (digits a) _ (8 + i)
    ∙ ap₂ ◌⊕◌ (below-digits a h (8 + i) (omega arith)) (zpow-at 8 f i) ∙ zero-⊕ (f i)

pub six-top : (a b c d e f : ℕ) → Word a → Word b → Word c → Word d → Word e → six a b c d e f 47 ≡ of (out f)
six-top a b c d e f ha hb hc hd he =
    join-at a _ 39 ha ∙ join-at b _ 31 hb ∙ join-at c _ 23 hc ∙ join-at d _ 15 hd ∙ join-at e _ 7 he ∙ digits_last f

pub six-zero : six 0 0 0 0 0 0 ≡ O
six-zero = rw digits-zero (simp ⊠-ring)

-- ---- sums

join-xor : (a b : ℕ) (f g h : Series) → h ≡ f ⊞ g → join (bit_xor a b) h ≡ join a f ⊞ join b g
join-xor a b f g h e = ap₂ (λ (s t : Series). s ⊞ zpow 8 ⊠ t) (digits-xor a b) e ∙ simp ⊠-ring

pub six-xor : (a b c d e f a' b' c' d' e' f' : ℕ)
    → six (bit_xor a a') (bit_xor b b') (bit_xor c c') (bit_xor d d') (bit_xor e e') (bit_xor f f')
    ≡ six a b c d e f ⊞ six a' b' c' d' e' f'
six-xor a b c d e f a' b' c' d' e' f' =
    join-xor a a' _ _ _
    (join-xor b b' _ _ _ (join-xor c c' _ _ _ (join-xor d d' _ _ _ (join-xor e e' _ _ _ (digits-xor f f')))))

-- ---- one symbol up: c is carried into a word, and e falls out at the end

last_up : (a c : ℕ) → digits (bit_xor (up a) c) ≡ Z ⊠ digits a ⊞ digits c ⊞ zpow 8 ⊠ digits (out a)
last_up a c = digits-xor (up a) c ∙ ⊞_lc (digits_shift a) (simp ⊠-ring)

join_up : (a c : ℕ) (f r e : Series) → r ≡ Z ⊠ f ⊞ digits (out a) ⊞ e
    → join (bit_xor (up a) c) r ≡ Z ⊠ join a f ⊞ digits c ⊞ zpow 8 ⊠ e
join_up a c f r e q = ap₂ (λ (s t : Series). s ⊞ zpow 8 ⊠ t) (digits-xor (up a) c) q
    ∙ ⊞_lc (digits_shift a) (simp ⊠-ring)

first-up : (a : ℕ) (f r e : Series) → r ≡ Z ⊠ f ⊞ digits (out a) ⊞ e → join (up a) r ≡ Z ⊠ join a f ⊞ zpow 8 ⊠ e
first-up a f r e q = ap (λ (t : Series). digits (up a) ⊞ zpow 8 ⊠ t) q ∙ ⊞_lc (digits_shift a) (simp ⊠-ring)

zpow_48 : (f : Series) → zpow 48 ⊠ f ≡ zpow 8 ⊠ (zpow 8 ⊠ (zpow 8 ⊠ (zpow 8 ⊠ (zpow 8 ⊠ (zpow 8 ⊠ f)))))
zpow_48 f = more 8 40 ∙ in8 (more 8 32 ∙ in8 (more 8 24 ∙ in8 (more 8 16 ∙ in8 (more 8 8))))
  where
    more : (m n : ℕ) → zpow (m + n) ⊠ f ≡ zpow m ⊠ (zpow n ⊠ f)
    more m n = ap (λ (t : Series). t ⊠ f) (zpow-add m n) ∙ ⊠_assoc (zpow m) (zpow n) f

    in8 : {s t : Series} → s ≡ t → zpow 8 ⊠ s ≡ zpow 8 ⊠ t
    in8 e i = zpow 8 ⊠ e i

pub six-up : (a b c d e f : ℕ)
    → six (up a) (bit_xor (up b) (out a)) (bit_xor (up c) (out b)) (bit_xor (up d) (out c))
    (bit_xor (up e) (out d)) (bit_xor (up f) (out e))
    ≡ Z ⊠ six a b c d e f ⊞ zpow 48 ⊠ digits (out f)
six-up a b c d e f =
    first-up a _ _ _ (join_up b _ _ _ _ (join_up c _ _ _ _ (join_up d _ _ _ _ (join_up e _ _ _ _ (last_up f _)))))
    ∙ ap (λ (t : Series). Z ⊠ six a b c d e f ⊞ t) (sym (zpow_48 _))

-- the same, and six other words added
pub six_shifted : (a b c d e f a' b' c' d' e' f' : ℕ) → Word a → Word b → Word c → Word d → Word e → Word f
    → six (bit_xor (up a) a') (bit_xor (bit_xor (up b) (out a)) b') (bit_xor (bit_xor (up c) (out b)) c')
    (bit_xor (bit_xor (up d) (out c)) d')
    (bit_xor (bit_xor (up e) (out d)) e') (bit_xor (bit_xor (up f) (out e)) f')
    ≡ Z ⊠ six a b c d e f ⊞ K (six a b c d e f 47) ⊠ zpow 48 ⊞ six a' b' c' d' e' f'
six_shifted a b c d e f a' b' c' d' e' f' ha hb hc hd he hf =
    six-xor (up a) _ _ _ _ _ a' b' c' d' e' f'
    ∙ ap (λ (s : Series). s ⊞ six a' b' c' d' e' f')
    (six-up a b c d e f ∙ ap (λ (s : Series). Z ⊠ six a b c d e f ⊞ s) top)
  where
    top : zpow 48 ⊠ digits (out f) ≡ K (six a b c d e f 47) ⊠ zpow 48
    top =
        ap (λ (s : Series). zpow 48 ⊠ s)
        (digits-byte (out f) (omega arith) ∙ ap K (sym (six-top a b c d e f ha hb hc hd he)))
        ∙ ⊠_comm _ _

-- ---- the first sixteen symbols zero

pub packed-tops : (a b c d e f : ℕ) → Word a → Word b → ((i : ℕ) → i < 16 → six a b c d e f i ≡ 𝟎)
    → six a b c d e f ≡ six 0 0 c d e f
packed-tops a b c d e f ha hb z =
    zpow_divide 16 _ z ∙ ap (λ (s : Series). zpow 16 ⊠ s) rest ∙ rw (zpow-add 8 8, digits-zero) (simp ⊠-ring)
  where
    rest : drop 16 (six a b c d e f) ≡ join c (join d (join e (digits f)))
    rest = fun_ext (λ i. let s : 16 + i ≡ 8 + (8 + i) = omega arith in
        drop_at 16 _ i ∙ ap (six a b c d e f) s ∙ join-at a _ (8 + i) ha ∙ join-at b _ i hb)

pub tops-low : (a b c d : ℕ) (i : ℕ) → i < 16 → six 0 0 a b c d i ≡ 𝟎
tops-low a b c d i h = ap (λ (f : Series). f i) shape ∙ zpow-low 16 _ i h
  where
    shape : six 0 0 a b c d ≡ zpow 16 ⊠ join a (join b (join c (digits d)))
    shape = rw (zpow-add 8 8, digits-zero) (simp ⊠-ring)

-- ---- from and to bytes

pub pack_lt : (w b : ℕ) → b < 256 → Word (bit_xor (up w) b)
pack_lt w b h = xor_lt 64 (up w) b (omega arith) (omega arith)

pub pack-more : (f : Series) (n w b : ℕ) → n < 8 → Word w → b < 256 → of b ≡ f 0 → digits w ≡ cut n (tail f)
    → digits (bit_xor (up w) b) ≡ cut (suc n) f
pack-more f n w b hn hw hb e h =
    last_up w b ∙ rw (z, digits-zero, h, digits-byte b hb, e, cut_head) (simp ⊠-ring)
  where
    top : of (out w) ≡ of 0
    top = sym (digits_last w) ∙ ap (λ (g : Series). g 7) h ∙ cut_high n (tail f) 7 (omega arith) ∙ sym of_zero

    z : out w ≡ 0
    z = of_inj _ _ (omega arith) (omega arith) top

join_pack : (a m n : ℕ) (f r : Series) → digits a ≡ cut 8 (drop m f) → r ≡ cut n (drop (m + 8) f)
    → join a r ≡ cut (8 + n) (drop m f)
join_pack a m n f r e q = ap₂ (λ (s t : Series). s ⊞ zpow 8 ⊠ t) e (q ∙ ap (cut n) (sym twice))
    ∙ sym (cut-join 8 n (drop m f))
  where
    twice : drop 8 (drop m f) ≡ drop (m + 8) f
    twice = fun_ext (λ i. drop_at 8 (drop m f) i ∙ drop_at m f (8 + i) ∙ sym (drop_at (m + 8) f i ∙ ap f (assoc i)))
      where
        assoc : (i : ℕ) → m + 8 + i ≡ m + (8 + i)
        assoc i = omega arith

pub six_pack : (g : Series) (a b c d e f : ℕ) → digits a ≡ cut 8 (drop 0 g) → digits b ≡ cut 8 (drop 8 g)
    → digits c ≡ cut 8 (drop 16 g)
    → digits d ≡ cut 8 (drop 24 g) → digits e ≡ cut 8 (drop 32 g) → digits f ≡ cut 8 (drop 40 g)
    → six a b c d e f ≡ cut 48 g
six_pack g a b c d e f ha hb hc hd he hf =
    join_pack a 0 40 g _ ha
    (join_pack b 8 32 g _ hb (join_pack c 16 24 g _ hc (join_pack d 24 16 g _ hd (join_pack e 32 8 g _ he hf))))
    ∙ ap (cut 48) (drop-none g)

pub six_spread : (a b c d e f : ℕ)
    → O ⊞ zpow 0 ⊠ digits a ⊞ zpow 8 ⊠ digits b ⊞ zpow 16 ⊠ digits c ⊞ zpow 24 ⊠ digits d
    ⊞ zpow 32 ⊠ digits e ⊞ zpow 40 ⊠ digits f
    ≡ six a b c d e f
six_spread a b c d e f = rw (zpow-add 8 32, zpow-add 8 24, zpow-add 8 16, zpow-add 8 8, zpow-zero) (simp ⊠-ring)
