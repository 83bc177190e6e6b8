-- Texts that are appended one after the other, and the digits of a number.
--
-- Proved: what two texts come to that are appended one after the other (appended_then, appended-next); what no text
-- (appended-none) and one more byte of a text (appended-more) come to; what a line is that was appended to nothing
-- (appended-line); the same for the first bytes of an array that is lent (stored_then, stored-next, stored-none,
-- stored-end, stored-more, stored-line), and what a store (stored-byte) and an array with no room (stored_full) come to
-- there; that as texts this is appending (stored-appended); the digits of a number (decimal-one, decimal-more), and
-- that a number below 2^16 has at most five (decimal-short), so that every line has room (blocks-short, ok-short,
-- refused-short, card-short).
use Rattle.std.specs.Prelude.{ℕ, zero, suc, ◌+◌, ◌-◌, ◌*◌, ◌/◌, ◌%◌, ◌≤◌, ◌<◌, ◌≡◌, refl, List, [], ◌∷◌, ◌++◌, length}
use Rattle.std.specs.Prelude.{get_or, take, drop, set}
use Rattle.std.proofs.Common.{sym, ap, ap₂, ◌∙◌, append_assoc, append-nil, div-add-mod', mod-lt, arith, lt-ltb, le-ltb}
use Rattle.std.proofs.Common.{length-append, length-take, take_all, take-suc, take-take, length-take-le, mod-eq_of_lt}
use Rattle.std.proofs.Common.{length-set, take-append-drop, take_at, drop-drop}
use Rattle.std.proofs.Math.Logic.{by_cases}
use Rattle.std.proofs.Math.Decide.{dec_lt, dec_le}
use Rattle.std.proofs.lemmas.List.{take-append-le, set_split}
use Rattle.std.proofs.Math.Seq.{take-append_seam, drop-length, drop-append-add}
use Rattle.listing.specs.Definition.{glyph, digits, decimal, Printed, Stored, Appended}
use Rattle.listing.specs.Definition.{blocks_line, ok_line, refused_line, card_line}

-- what has room of two texts: the second behind what has room of the first
room_then : (n : ℕ) (x y : List ℕ) → take n (take n x ++ y) ≡ take n (x ++ y)
room_then n x y =
    by_cases (dec_le n (length x))
    (λ s. take-append-le n (take n x) y (omega (arith, length-take-le n x s))
    ∙ take-take n n x (omega arith) ∙ sym (take-append-le n x y s))
    (λ s. ap (λ (w : List ℕ). take n (w ++ y)) (take_all n x (omega arith)))

pub appended-none : (n : ℕ) (s : List ℕ) → Appended n [] s s
appended-none n s = record { says = λ h. sym (ap (take n) (append-nil s) ∙ take_all n s h) }

pub appended_then : {n : ℕ} {x y s t u : List ℕ} → Appended n x s t → Appended n y t u → Appended n (x ++ y) s u
appended_then {n = n} {x = x} {y = y} {s = s} {t = t} p q =
    let fits : length s ≤ n → length t ≤ n =
    λ h. omega (arith, ap length (p.says h), length-take n (s ++ x)) in
    record {
      says = λ h. q.says (fits h) ∙ ap (λ (w : List ℕ). take n (w ++ y)) (p.says h)
          ∙ room_then n (s ++ x) y ∙ ap (take n) (append_assoc s x y);
    }

-- the second text is two
pub appended-next : {n : ℕ} {x s t u : List ℕ} (y z : List ℕ) → Appended n x s t → Appended n (y ++ z) t u
    → Appended n ((x ++ y) ++ z) s u
appended-next {x = x} y z p q = rw (append_assoc x y z) (appended_then p q)

-- one more byte of the text x
pub appended-more : {n : ℕ} {s t u : List ℕ} (x : List ℕ) (i : ℕ) → i < length x → Appended n (take i x) s t
    → Appended n (get_or x i 0 ∷ []) t u → Appended n (take (i + 1) x) s u
appended-more x i h p q =
    let next : suc i ≡ i + 1 = omega arith in
    let more : take i x ++ (get_or x i 0 ∷ []) ≡ take (i + 1) x =
    sym (take-suc x i 0 h) ∙ ap (λ (n : ℕ). take n x) next in
    rw more at (appended_then p q)

pub appended-line : {n : ℕ} {x s t : List ℕ} → s ≡ [] → length x ≤ n → Appended n x s t → t ≡ x
appended-line {n = n} {x = x} e h p =
    p.says (omega (arith, ap length e)) ∙ ap (λ (w : List ℕ). take n (w ++ x)) e ∙ take_all n x h

-- ---- texts in an array that is lent

printed_front : {x l m : List ℕ} {n : ℕ} → Printed x l n m → take n m ≡ x
printed_front {x = x} {l = l} {n = n} p = ap (take n) p.says ∙ take_at x (drop n l) n (sym p.size)

printed_behind : {x l m : List ℕ} {n : ℕ} (b : ℕ) → n ≤ b → Printed x l n m → drop b m ≡ drop b l
printed_behind {x = x} {l = l} {n = n} b h p =
    let e : b ≡ length x + (b - n) = omega (arith, p.size) in
    let f : n + (b - n) ≡ b = omega arith in
    ap₂ drop e p.says ∙ drop-append-add x (drop n l) (b - n) ∙ drop-drop (b - n) n l
    ∙ ap (λ (i : ℕ). drop i l) f

pub stored_then : {a e b : ℕ} {x y l m k : List ℕ} → Stored a x l e m → Stored e y m b k
    → Stored a (x ++ y) l b k
stored_then {a = a} {e = e} {b = b} {x = x} {y = y} {l = l} {m = m} p q =
    let n = length l in
    let first = take n (take a l ++ x) in
    let joined : take n (first ++ y) ≡ take n (take a l ++ (x ++ y)) =
    room_then n (take a l ++ x) y ∙ ap (take n) (append_assoc (take a l) x y) in
    let both : take (length m) (take e m ++ y) ≡ take n (take a l ++ (x ++ y)) =
    ap₂ (λ (i : ℕ) (w : List ℕ). take i (w ++ y)) p.long (printed_front p.printed) ∙ joined in
    let later : e ≤ b =
    omega (
      arith,
      p.printed.size,
      q.printed.size,
      ap length both,
      ap length joined,
      length-take n (take a l ++ x),
      length-take n (first ++ y),
      length-append first y,
    ) in
    record {
      long = q.long ∙ p.long;
      printed = record {
        size = q.printed.size ∙ ap length both;
        says = q.printed.says ∙ ap₂ ◌++◌ both (printed_behind b later p.printed);
      };
    }

-- the second text is two
pub stored-next : {a e b : ℕ} {x l m k : List ℕ} (y z : List ℕ) → Stored a x l e m → Stored e (y ++ z) m b k
    → Stored a ((x ++ y) ++ z) l b k
stored-next {x = x} y z p q = rw (append_assoc x y z) (stored_then p q)

pub stored-none : (a e : ℕ) (l : List ℕ) → e ≡ length (take a l) → Stored a [] l e l
stored-none a e l h =
    let n = length l in
    let none : take n (take a l ++ []) ≡ take a l =
    ap (take n) (append-nil (take a l)) ∙ take_all n (take a l) (omega (arith, length-take a l)) in
    let front : take e l ≡ take a l =
    by_cases (dec_le a n)
    (λ s. ap (λ (i : ℕ). take i l) (h ∙ length-take-le a l s))
    (λ s. take_all e l (omega (arith, h, length-take a l)) ∙ sym (take_all a l (omega arith))) in
    record {
      long = refl;
      printed = record {
        size = h ∙ sym (ap length none);
        says = sym (take-append-drop e l) ∙ ap (λ (w : List ℕ). w ++ drop e l) (front ∙ sym none);
      };
    }

-- where a text ended, nothing is stored yet
pub stored-end : {a e : ℕ} {x l m : List ℕ} → Stored a x l e m → Stored e [] m e m
stored-end {e = e} {m = m} p = stored-none e e m (p.printed.size ∙ sym (ap length (printed_front p.printed)))

pub stored-byte : (a b : ℕ) (l : List ℕ) → a < length l → Stored a (b ∷ []) l (a + 1) (set l a b)
stored-byte a b l h =
    let n = length l in
    let long : length (take a l ++ (b ∷ [])) ≡ a + 1 =
    length-append (take a l) (b ∷ []) ∙ ap (λ (i : ℕ). i + 1) (length-take-le a l (omega arith)) in
    let all : take n (take a l ++ (b ∷ [])) ≡ take a l ++ (b ∷ []) = take_all n _ (omega (arith, long)) in
    let next : suc a ≡ a + 1 = omega arith in
    record {
      long = length-set l a b;
      printed = record {
        size = sym (ap length all ∙ long);
        says = set_split l a b h ∙ sym (append_assoc (take a l) (b ∷ []) (drop (suc a) l))
            ∙ ap₂ (λ (w : List ℕ) (i : ℕ). w ++ drop i l) (sym all) next;
      };
    }

-- one more byte of the text s, in an array
pub stored-more : {a e b : ℕ} {l m k : List ℕ} (s : List ℕ) (i : ℕ) → i < length s → Stored a (take i s) l e m
    → Stored e (get_or s i 0 ∷ []) m b k → Stored a (take (i + 1) s) l b k
stored-more s i h p q =
    let next : suc i ≡ i + 1 = omega arith in
    let more : take i s ++ (get_or s i 0 ∷ []) ≡ take (i + 1) s =
    sym (take-suc s i 0 h) ∙ ap (λ (n : ℕ). take n s) next in
    rw more at (stored_then p q)

pub stored_full : (a : ℕ) (x l : List ℕ) → length l ≤ a → Stored a x l (length l) l
stored_full a x l h =
    let n = length l in
    let all : take n (take a l ++ x) ≡ l =
    ap (λ (w : List ℕ). take n (w ++ x)) (take_all a l h) ∙ take-append_seam l x in
    record {
      long = refl;
      printed = record {
        size = sym (ap length all);
        says = sym (append-nil l) ∙ ap₂ ◌++◌ (sym all) (sym (drop-length l));
      };
    }

pub stored-line : {x l m : List ℕ} {e : ℕ} → length x ≤ 32 → 32 ≤ length l → Stored 0 x l e m → Printed x l e m
stored-line {x = x} {l = l} h g p = rw (take_all (length l) x (omega arith)) at p.printed

-- what was stored in an array of n bytes was, as texts, appended in room for n bytes
pub stored-appended : {n a e : ℕ} {x l m : List ℕ} → length l ≡ n → Stored a x l e m
    → Appended n x (take a l) (take e m)
stored-appended {a = a} {x = x} {l = l} h p = record {
  says = λ _. printed_front p.printed ∙ ap (λ (i : ℕ). take i (take a l ++ x)) h;
}

-- ---- digits

tenth : (n : ℕ) → 10 * (n / 10) ≤ n
tenth n = omega (arith, div-add-mod' n 10)

digits_low : (k n : ℕ) → n < 10 → digits k n ≡ glyph n ∷ []
digits_low zero n h = refl
digits_low (suc k) n h = rw (lt-ltb n 10 h)

digits-high : (k n : ℕ) → 10 ≤ n → digits (suc k) n ≡ digits k (n / 10) ++ (glyph (n % 10) ∷ [])
digits-high k n h = rw (le-ltb n 10 h)

-- more digits than a number has make no difference
digits_same : (k l n : ℕ) → n ≤ k → n ≤ l → digits k n ≡ digits l n
digits_same zero l n h g = sym (digits_low l n (omega arith))
digits_same (suc k) zero n h g = digits_low (suc k) n (omega arith)
digits_same (suc k) (suc l) n h g =
    by_cases (dec_lt n 10)
    (λ s. digits_low (suc k) n s ∙ sym (digits_low (suc l) n s))
    (λ s.
    digits-high k n (omega arith)
    ∙ ap (λ (w : List ℕ). w ++ (glyph (n % 10) ∷ []))
    (digits_same k l (n / 10) (omega (arith, tenth n)) (omega (arith, tenth n)))
    ∙ sym (digits-high l n (omega arith)))

pub decimal-one : (n : ℕ) → n < 10 → decimal n ≡ glyph n ∷ []
decimal-one n h = digits_low n n h

pub decimal-more : (n : ℕ) → 10 ≤ n → decimal n ≡ decimal (n / 10) ++ (glyph (n % 10) ∷ [])
decimal-more zero h = absurd (omega arith)
decimal-more (suc n) h =
    digits-high n (suc n) h
    ∙ ap (λ (w : List ℕ). w ++ (glyph (suc n % 10) ∷ []))
    (digits_same n (suc n / 10) (suc n / 10) (omega (arith, tenth (suc n))) (omega arith))

decimal-length : (n : ℕ) → 10 ≤ n → length (decimal n) ≡ length (decimal (n / 10)) + 1
decimal-length n h = ap length (decimal-more n h) ∙ length-append (decimal (n / 10)) (glyph (n % 10) ∷ [])

pub last_digit : (n : ℕ) → n % 10 < 10
last_digit n = mod-lt n (omega arith)

pub tenth-less : (n : ℕ) → 10 ≤ n → n / 10 < n
tenth-less n h = omega (arith, tenth n)

-- ten times the bound, one digit more
longer : (b k : ℕ) → ((n : ℕ) → n < b → length (decimal n) ≤ k) → (n : ℕ) → n < 10 * b → length (decimal n) ≤ suc k
longer b k h n l =
    by_cases (dec_lt n 10)
    (λ s. omega (arith, ap length (decimal-one n s)))
    (λ s. omega (arith, decimal-length n (omega arith), h (n / 10) (omega (arith, tenth n))))

pub decimal-short : (n : ℕ) → n < 65536 → length (decimal n) ≤ 5
decimal-short n h =
    longer 10000 4
    (longer 1000 3 (longer 100 2 (longer 10 1 (λ m l. omega (arith, ap length (decimal-one m l)))))) n (omega arith)

-- ---- lines are short

pub blocks-short : (n : ℕ) → n < 65536 → length (blocks_line n) ≤ 32
blocks-short n h = simp length-append (omega (arith, decimal-short n h))

pub ok-short : (i r c w : ℕ) → i < 65536 → r < 65536 → c < 65536 → w < 65536 → length (ok_line i r c w) ≤ 32
ok-short i r c w h g f e =
    simp length-append (omega (arith, decimal-short i h, decimal-short r g, decimal-short c f, decimal-short w e))

pub refused-short : (i q : ℕ) → i < 65536 → q < 65536 → length (refused_line i q) ≤ 32
refused-short i q h g = simp length-append (omega (arith, decimal-short i h, decimal-short q g))

pub card-short : (q : ℕ) → q < 65536 → length (card_line q) ≤ 32
card-short q h = simp length-append (omega (arith, decimal-short q h))

-- ---- numbers that are appended

pub appended-low : {n : ℕ} {s t : List ℕ} (k : ℕ) → k < 10 → Appended n (glyph (k % 10) ∷ []) s t
    → Appended n (decimal k) s t
appended-low k h p = rw (decimal-one k h) (rw (mod-eq_of_lt h) at p)

pub appended-high : {n : ℕ} {s t u : List ℕ} (k : ℕ) → 10 ≤ k → Appended n (decimal (k / 10)) s t
    → Appended n (glyph (k % 10) ∷ []) t u → Appended n (decimal k) s u
appended-high k h p q = rw (decimal-more k h) (appended_then p q)

pub stored-low : {a n e : ℕ} {l m : List ℕ} → n < 10 → Stored a (glyph n ∷ []) l e m → Stored a (decimal n) l e m
stored-low {n = n} h p = rw (decimal-one n h) p

pub stored-high : {a n e b : ℕ} {l m k : List ℕ} → 10 ≤ n → Stored a (decimal (n / 10)) l e m
    → Stored e (glyph (n % 10) ∷ []) m b k → Stored a (decimal n) l b k
stored-high {n = n} h p q = rw (decimal-more n h) (stored_then p q)
