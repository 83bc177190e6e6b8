-- Lists of numbers, and buffers that they fill.
--
-- Proved: a list takes up three numbers (put_three) or two (put_two), line after line (lines_none, lines_more,
-- lines-all; bits_none, bits-more, bits-all), part after part (listed_parts); a buffer is filled number by number
-- (filled_more, filled-length, filled-all, filled-up).
use Rattle.std.specs.Prelude.{ℕ, zero, suc, ◌+◌, ◌*◌, ◌≤◌, ◌<◌, ◌≡◌, refl, List, [], ◌∷◌, ◌++◌, length, get_or, set}
use Rattle.std.specs.Prelude.{take, drop}
use Rattle.std.proofs.Common.{sym, ap, ap₂, ◌∙◌, append_assoc, append-nil, add-one, arith, length-set, length-append}
use Rattle.std.proofs.Common.{length-drop, drop_of_length-le, take_all, take-suc-set, length-take-le}
use Rattle.staged_decoding.specs.Definition.{Line}
use Rattle.stages.specs.declared.report.Line as stored
use Rattle.stages.specs.Report.{verdict_of, says}
use Rattle.stages.specs.Lines.{has, says_at}
use Rattle.gii.specs.NumbersDefinition.{line_numbers, lines_numbers, two_bytes, bits_numbers, head_numbers}
use Rattle.gii.specs.NumbersDefinition.{listed, filled}

-- ---- lists of numbers

entries : (x : List ℕ) → length x ≡ 3 → get_or x 0 0 ∷ get_or x 1 0 ∷ get_or x 2 0 ∷ [] ≡ x
entries [] e = absurd (omega arith)
entries (a ∷ []) e = absurd (omega arith)
entries (a ∷ b ∷ []) e = absurd (omega arith)
entries (a ∷ b ∷ c ∷ []) e = refl
entries (a ∷ b ∷ c ∷ d ∷ x) e = absurd (omega arith)

pub put_two : (l : List ℕ) (k x y : ℕ) → k + 2 ≤ length l
    → take (k + 2) (set (set l k x) (k + 1) y) ≡ take k l ++ (x ∷ y ∷ [])
put_two l k x y h =
    let a = set l k x in
    let e2 : k + 2 ≡ suc (k + 1) = omega arith in
    ap (λ n. take n (set a (k + 1) y)) e2
    ∙ take-suc-set a (k + 1) y (omega (arith, length-set l k x))
    ∙ ap (λ n. take n a ++ (y ∷ [])) (add-one k)
    ∙ ap (λ w. w ++ (y ∷ [])) (take-suc-set l k x (omega arith))
    ∙ append_assoc (take k l) (x ∷ []) (y ∷ [])

three : (l : List ℕ) (k x y z : ℕ) → k + 3 ≤ length l
    → take (k + 3) (set (set (set l k x) (k + 1) y) (k + 2) z) ≡ take k l ++ (x ∷ y ∷ z ∷ [])
three l k x y z h =
    let b = set (set l k x) (k + 1) y in
    let lb : length b ≡ length l = length-set (set l k x) (k + 1) y ∙ length-set l k x in
    let e3 : k + 3 ≡ suc (k + 2) = omega arith in
    ap (λ n. take n (set b (k + 2) z)) e3
    ∙ take-suc-set b (k + 2) z (omega (arith, lb))
    ∙ ap (λ w. w ++ (z ∷ [])) (put_two l k x y (omega arith))
    ∙ append_assoc (take k l) (x ∷ y ∷ []) (z ∷ [])

pub put_three : (list x : List ℕ) (k : ℕ) → k + 3 ≤ length list → length x ≡ 3
    → take (k + 3) (set (set (set list k (get_or x 0 0)) (k + 1) (get_or x 1 0)) (k + 2) (get_or x 2 0)) ≡ take k list
    ++ x
put_three list x k h e = three list k (get_or x 0 0) (get_or x 1 0) (get_or x 2 0) h
    ∙ ap (λ n. take k list ++ n) (entries x e)

pub lines_none : (f : ℕ → Line) (l : List ℕ) → take (3 + 3 * 0) l ≡ take 3 l ++ lines_numbers 0 f
lines_none f l = sym (append-nil (take 3 l))

pub lines_more : (lines : List stored.Line) (h list next x : List ℕ) (i : ℕ) (d : stored.Line) → i < length lines
    → take (3 + 3 * i) list ≡ h ++ lines_numbers i (says lines)
    → x ≡ line_numbers (verdict_of (get_or lines i d).verdict)
    → take (3 + 3 * i + 3) next ≡ take (3 + 3 * i) list ++ x
    → take (3 + 3 * (i + 1)) next ≡ h ++ lines_numbers (i + 1) (says lines)
lines_more lines h list next x i d below is line put =
    let n : 3 + 3 * (i + 1) ≡ 3 + 3 * i + 3 = omega arith in
    let l : x ≡ line_numbers (says lines i).verdict = line
    ∙ ap (λ (l : Line). line_numbers l.verdict) (sym (says_at lines i (get_or lines i d) (has lines i d below))) in
    ap (λ n. take n next) n
    ∙ put
    ∙ ap₂ ◌++◌ is l
    ∙ append_assoc h (lines_numbers i (says lines)) (line_numbers (says lines i).verdict)
    ∙ ap (λ n. h ++ lines_numbers n (says lines)) (sym (add-one i))

pub lines-all : (f : ℕ → Line) (h list : List ℕ) (i : ℕ) → i ≡ 8
    → take (3 + 3 * i) list ≡ h ++ lines_numbers i f → take 27 list ≡ h ++ lines_numbers 8 f
lines-all f h list i e is = rw e at is

pub bits_none : (f : ℕ → Line) (l : List ℕ) → take (29 + 2 * 0) l ≡ take 29 l ++ bits_numbers 0 f
bits_none f l = sym (append-nil (take 29 l))

pub bits-more : (lines : List stored.Line) (h list next : List ℕ) (i n : ℕ) (d : stored.Line) → i < length lines
    → take (29 + 2 * i) list ≡ h ++ bits_numbers i (says lines) → n ≡ (get_or lines i d).bits
    → take (29 + 2 * i + 2) next ≡ take (29 + 2 * i) list ++ two_bytes n
    → take (29 + 2 * (i + 1)) next ≡ h ++ bits_numbers (i + 1) (says lines)
bits-more lines h list next i n d below is bits put =
    let k : 29 + 2 * (i + 1) ≡ 29 + 2 * i + 2 = omega arith in
    let l : n ≡ (says lines i).bits = bits
    ∙ ap (λ (l : Line). l.bits) (sym (says_at lines i (get_or lines i d) (has lines i d below))) in
    ap (λ k. take k next) k
    ∙ put
    ∙ ap₂ (λ w n. w ++ two_bytes n) is l
    ∙ append_assoc h (bits_numbers i (says lines)) (two_bytes (says lines i).bits)
    ∙ ap (λ k. h ++ bits_numbers k (says lines)) (sym (add-one i))

pub bits-all : (f : ℕ → Line) (h list : List ℕ) (i : ℕ) → i ≡ 8
    → take (29 + 2 * i) list ≡ h ++ bits_numbers i f → take 45 list ≡ h ++ bits_numbers 8 f
bits-all f h list i e is = rw e at is

-- one part after the other: a to d are the list after each
pub listed_parts : (f : ℕ → Line) (r k w : ℕ) (a b c d : List ℕ) → length d ≡ 45 → take 3 a ≡ head_numbers r k
    → take 27 b ≡ take 3 a ++ lines_numbers 8 f → take 29 c ≡ take 27 b ++ two_bytes w
    → take 45 d ≡ take 29 c ++ bits_numbers 8 f → d ≡ listed r k w f
listed_parts f r k w a b c d long head lines block bits =
    sym (take_all 45 d (omega arith))
    ∙ bits
    ∙ ap (λ l. l ++ bits_numbers 8 f)
    (block ∙ ap (λ l. l ++ two_bytes w) (lines ∙ ap (λ l. l ++ lines_numbers 8 f) head))

-- ---- filling a buffer

module _ (l b : List ℕ) where
  pub filled_more : (i : ℕ) → i < length l → i < length b
      → set (take i l ++ drop i b) i (get_or l i 0) ≡ take (i + 1) l ++ drop (i + 1) b
  filled_more i h k = go l b i h k ∙ ap (λ n. take n l ++ drop n b) (sym (add-one i))
    where
      go : (l b : List ℕ) (i : ℕ) → i < length l → i < length b
          → set (take i l ++ drop i b) i (get_or l i 0) ≡ take (suc i) l ++ drop (suc i) b
      go [] b i h k = absurd (omega arith)
      go (x ∷ l) [] i h k = absurd (omega arith)
      go (x ∷ l) (y ∷ b) zero h k = refl
      go (x ∷ l) (y ∷ b) (suc i) h k = ap (◌∷◌ x) (go l b i (omega arith) (omega arith))

  pub filled-length : (i : ℕ) → i ≤ length l → i ≤ length b → length (take i l ++ drop i b) ≡ length b
  filled-length i h k =
      let e : length (take i l) + length (drop i b) ≡ length b = omega (arith, length-take-le i l h, length-drop i b) in
      length-append (take i l) (drop i b) ∙ e

  -- all numbers are written
  pub filled-all : (i : ℕ) → i ≡ length l → i ≤ length b → take i l ++ drop i b ≡ filled l b
  filled-all i e h =
      ap₂ ◌++◌ (take_all i l (omega arith) ∙ sym (take_all (length b) l (omega arith))) (ap (λ n. drop n b) e)

  -- the buffer is full
  pub filled-up : (i : ℕ) → i ≡ length b → i ≤ length l → take i l ++ drop i b ≡ filled l b
  filled-up i e h = ap₂ ◌++◌ (ap (λ n. take n l) e)
      (drop_of_length-le b {i = i} (omega arith) ∙ sym (drop_of_length-le b {i = length l} (omega arith)))
