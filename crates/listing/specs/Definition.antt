-- The lines of the printed list: FORMAT 9.4. A text is the list of its bytes, in ASCII.
--
--   ascii s                the bytes of s
--   decimal n              n in decimal digits, the first of which is zero only if n is
--   blocks_line n          the line that tells how many blocks a card has
--   ok_line i r c w        block i was read, r being the last stage, c the number of changed symbols and w of changed
--                          bits
--   refused_line i q       block i was refused by the number q
--   card_line q            the card was refused by the number q
--   Printed x l n m        the text x was printed into an array that was l: it has n bytes, and the array is m now,
--                          with the bytes behind the text as they were
--   Stored a x l n m       the text x was appended to the first a bytes of an array that was l, as far as it has room:
--                          all of it has n bytes, and the array is m now
--   Appended n x s t       the text x was appended to the text s, in room for n bytes: t is what fits of both
use Rattle.std.specs.Prelude.{ℕ, zero, suc, ◌+◌, ◌/◌, ◌%◌, ◌≤◌, ◌≡◌, cond, List, [], ◌∷◌, ◌++◌, ltb, length, take, drop}
use Prim.Native.Char.{code}
use Prim.Native.String.{String, [] as none, ◌∷◌ as ◌and◌}

abbrev pub ascii : String → List ℕ
ascii none = []
ascii (c and s) = code c ∷ ascii s

-- the ASCII code of a digit
abbrev pub glyph : ℕ → ℕ
glyph d = 48 + d

-- the digits of a number below 10^(k+1)
abbrev pub digits : ℕ → ℕ → List ℕ
digits zero n = glyph n ∷ []
digits (suc k) n = cond (ltb n 10) (glyph n ∷ []) (digits k (n / 10) ++ (glyph (n % 10) ∷ []))

-- n is below 10^(n+1)
abbrev pub decimal : ℕ → List ℕ
decimal n = digits n n

-- FORMAT 9.4: `blocks N`
abbrev pub blocks_line : ℕ → List ℕ
blocks_line n = ascii "blocks " ++ decimal n ++ ascii "\n"

-- FORMAT 9.4: `I ok R C W`, with the number of the block, the last stage entered, the number of changed bytes and the
-- number of wrong bits
abbrev pub ok_line : (i r c w : ℕ) → List ℕ
ok_line i r c w =
    decimal i ++ ascii " ok " ++ decimal r ++ ascii " " ++ decimal c ++ ascii " " ++ decimal w ++ ascii "\n"

-- FORMAT 9.4: `I refused Q`, without a stage
abbrev pub refused_line : ℕ → ℕ → List ℕ
refused_line i q = decimal i ++ ascii " refused " ++ decimal q ++ ascii "\n"

-- FORMAT 9.4: `card refused Q`
abbrev pub card_line : ℕ → List ℕ
card_line q = ascii "card refused " ++ decimal q ++ ascii "\n"

pub record Printed (x l : List ℕ) (n : ℕ) (m : List ℕ) : Type 0 where
  pub size : n ≡ length x
  pub says : m ≡ x ++ drop n l

pub record Stored (a : ℕ) (x l : List ℕ) (n : ℕ) (m : List ℕ) : Type 0 where
  pub long : length m ≡ length l
  pub printed : Printed (take (length l) (take a l ++ x)) l n m

pub record Appended (n : ℕ) (x s t : List ℕ) : Type 0 where
  pub says : length s ≤ n → t ≡ take n (s ++ x)
