-- Symbols by their exponents in bytes: a byte below 255 is the exponent of a power of α, 255 stands for zero.
--
--   symbol e      what the byte e stands for
--   lane e        the same of a `Lane` of the code
--   symbols l     an array of lanes as a series: what they stand for, then zeros
--   loss s i      entry i of an array of what exponents lose
--   Steps f s     the 32 entries of s are what the exponents of terms f lose from a position to the next: i for term i,
--                 nothing for one that is zero
--
-- Proved: the table of powers holds the symbol of each byte (symbol-table); the exponent of a product with W s
-- (back-less, back_more); a loop that makes steps keeps `Steps` (steps-none, steps-more), they serve at every position
-- (steps-terms), and what a step makes is the term at the next one (step_term).
use Rattle.std.specs.Prelude.{ℕ, zero, suc, ◌+◌, ◌-◌, ◌≤◌, ◌<◌, ◌≡◌, refl, ◌≢◌, List, [], ◌∷◌, length, get_or, set}
use Rattle.std.specs.Prelude.{replicate}
use Rattle.std.proofs.Common.{sym, ap, ap₂, ◌∙◌, not-suc-le-zero, le_of_suc-le-suc, arith, get_or-set_same}
use Rattle.std.proofs.Common.{get_or-set_other}
use Rattle.std.proofs.Math.Logic.{ite, if_pos, if_neg, by_cases}
use Rattle.std.proofs.Math.Decide.{ℕ_discrete, dec_lt}
use Rattle.std.proofs.lemmas.List.{get_or-replicate}
use Rattle.field.specs.Field.{F, 𝟎, α, ◌⊙◌, ◌≟◌, ⊙_comm, one-⊙, zero-⊙, of, of-byte, of_zero, log}
use Rattle.field.proofs.Field.{⊙-factor, log_lt}
use Rattle.field.specs.Field.{pow, pow-add, power_table}
use Rattle.field.proofs.Field.{pow-log, pow_nonzero, power_255, power_nonzero, power_table-at}
use Rattle.field.proofs.Field.{power_table-last}
use Rattle.series.specs.Series.{Series}
use Rattle.series.specs.Shift.{cut, cut_low, cut_high}
use Rattle.series.specs.Array.{read, read_at}
use Rattle.settling.specs.Locator.{W, W-is}
use Rattle.settle.specs.declared.positions.Lane.{Lane}
use Rattle.settle.specs.declared.positions.Loss.{Loss}
use Rattle.settle.specs.PositionsTerm.{W-power, terms, terms-at}

unfoldable pub symbol : ℕ → F
symbol e = ite (dec_lt e 255) (pow α e) 𝟎

symbol-some : (e : ℕ) → e < 255 → symbol e ≡ pow α e
unfolding symbol
symbol-some e h = if_pos (dec_lt e 255) h _ 𝟎

pub symbol-none : symbol 255 ≡ 𝟎
unfolding symbol
symbol-none = if_neg (dec_lt 255 255) (omega arith) _ 𝟎

pub symbol-zero : (e : ℕ) → e < 256 → symbol e ≡ 𝟎 → e ≡ 255
symbol-zero e h z =
    by_cases (ℕ_discrete e 255) (λ i. i) (λ n. absurd (power_nonzero e (sym (symbol-some e (omega arith)) ∙ z)))

pub symbol-log : (e : ℕ) (y : F) → y ≢ 𝟎 → e ≡ log y → symbol e ≡ y
symbol-log e y h l = symbol-some e (omega (arith, log_lt y)) ∙ ap (pow α) l ∙ pow-log y h

-- entry 255 of the table included
pub symbol-table : (e : ℕ) → e < 256 → of (get_or power_table e 0) ≡ symbol e
symbol-table e h =
    by_cases (ℕ_discrete e 255)
    (λ i. rw i (ap of power_table-last ∙ of_zero ∙ sym symbol-none))
    (λ o. ap of (power_table-at e (omega arith)) ∙ of-byte _ ∙ sym (symbol-some e (omega arith)))

-- ---- arrays

abbrev pub lane : Lane → F
lane e = symbol e.0

abbrev pub symbols : List Lane → Series
symbols = read lane (record { 0 = 255 })

-- an entry that is there is the same whatever stands for one that is not
entry : (l : List Lane) (i : ℕ) (a b : Lane) → i < length l → get_or l i a ≡ get_or l i b
entry [] i a b h = absurd (not-suc-le-zero h)
entry (x ∷ l) zero a b h = refl
entry (x ∷ l) (suc i) a b h = entry l i a b (le_of_suc-le-suc h)

pub symbols-at : (l : List Lane) (i : ℕ) → i < length l → symbols l i ≡ lane (get_or l i (record { 0 = 0 }))
symbols-at l i h = read_at lane _ l i ∙ ap lane (entry l i _ _ h)

-- ---- the exponent of a product with W s

pub back-less : (e s : ℕ) → e < s → s ≤ 255 → symbol (255 - (s - e)) ≡ symbol e ⊙ W s
back-less e s h b =
    let d : e + (255 - s) ≡ 255 - (s - e) = omega arith in
    symbol-some _ (omega arith)
    ∙ sym (ap₂ ◌⊙◌ (symbol-some e (omega arith)) (W-is s b) ∙ sym (pow-add α e (255 - s)) ∙ ap (pow α) d)

pub back_more : (e s : ℕ) → s ≤ e → e ≤ 255 → (e ≡ 255 → s ≡ 0) → symbol (e - s) ≡ symbol e ⊙ W s
back_more e s h b z = by_cases (ℕ_discrete e 255) none some
  where
    none : e ≡ 255 → symbol (e - s) ≡ symbol e ⊙ W s
    none i =
        let d : e - s ≡ 255 = omega (arith, z i) in
        ap symbol d ∙ symbol-none ∙ sym (ap (λ t. t ⊙ W s) (ap symbol i ∙ symbol-none) ∙ zero-⊙ _)

    some : e ≢ 255 → symbol (e - s) ≡ symbol e ⊙ W s
    some n =
        let d : e + (255 - s) ≡ 255 + (e - s) = omega arith in
        symbol-some (e - s) (omega arith)
        ∙ sym (ap₂ ◌⊙◌ (symbol-some e (omega arith)) (W-is s (omega arith))
        ∙ sym (pow-add α e (255 - s))
        ∙ ap (pow α) d
        ∙ pow-add α 255 (e - s)
        ∙ ap (λ t. t ⊙ pow α (e - s)) power_255
        ∙ one-⊙ _)

-- ---- steps

abbrev pub loss : List Loss → ℕ → ℕ
loss s i = (get_or s i (record { 0 = 0 })).0

abbrev pub Steps : Series → List Loss → Type 0
Steps f s = (i : ℕ) → i < 32 → loss s i ≡ ite (f i ≟ 𝟎) 0 i

pub steps-none : (f : Series) → Steps (cut 0 f) (replicate 32 (record { 0 = 0 }))
steps-none f i h =
    ap (λ (x : Loss). x.0) (get_or-replicate 32 i _ _ h)
    ∙ sym (if_pos (cut 0 f i ≟ 𝟎) (cut_high 0 f i (omega arith)) 0 i)

pub steps-more : (i : ℕ) (f : Series) (s : List Loss) (v : Loss) → Steps (cut i f) s → i < length s
    → v.0 ≡ ite (f i ≟ 𝟎) 0 i
    → Steps (cut (i + 1) f) (set s i v)
steps-more i f s v p h e j l = by_cases (ℕ_discrete j i) here (λ d. other d (dec_lt j i))
  where
    step : (x y : F) → x ≡ y → ite (x ≟ 𝟎) 0 j ≡ ite (y ≟ 𝟎) 0 j
    step x y q = ap (λ t. ite (t ≟ 𝟎) 0 j) q

    here : j ≡ i → loss (set s i v) j ≡ ite (cut (i + 1) f j ≟ 𝟎) 0 j
    here d =
        (rw d (ap (λ (x : Loss). x.0) (get_or-set_same s i v _ h) ∙ e))
        ∙ step _ _ (sym (cut_low (i + 1) f j (omega arith)))

    kept : j ≢ i → loss (set s i v) j ≡ loss s j
    kept d = ap (λ (x : Loss). x.0) (get_or-set_other s i j v _ d)

    other : j ≢ i → Dec (j < i) → loss (set s i v) j ≡ ite (cut (i + 1) f j ≟ 𝟎) 0 j
    other d (yes b) = kept d ∙ p j l ∙ step _ _ (cut_low i f j b ∙ sym (cut_low (i + 1) f j (omega arith)))
    other d (no b) =
        kept d ∙ p j l ∙ step _ _ (cut_high i f j (omega arith) ∙ sym (cut_high (i + 1) f j (omega arith)))

step-zero : (f : Series) (s : List Loss) (i : ℕ) → Steps f s → i < 32 → f i ≡ 𝟎 → loss s i ≡ 0
step-zero f s i p h z = p i h ∙ if_pos (f i ≟ 𝟎) z 0 i

step_other : (f : Series) (s : List Loss) (i : ℕ) → Steps f s → i < 32 → f i ≢ 𝟎 → loss s i ≡ i
step_other f s i p h z = p i h ∙ if_neg (f i ≟ 𝟎) z 0 i

-- a term is zero at one position if it is at another
pub steps-terms : (x : F) (f : Series) (s : List Loss) → x ≢ 𝟎 → Steps f s → Steps (terms x f) s
steps-terms x f s h p i l =
    by_cases (f i ≟ 𝟎)
    (λ z. step-zero f s i p l z
    ∙ sym (if_pos (terms x f i ≟ 𝟎) (terms-at x f i ∙ ap (λ t. t ⊙ pow x i) z ∙ zero-⊙ _) 0 i))
    (λ z. step_other f s i p l z
    ∙ sym (if_neg (terms x f i ≟ 𝟎)
    (λ e. z (⊙-factor _ _ (pow_nonzero x i h) (⊙_comm _ _ ∙ sym (terms-at x f i) ∙ e))) 0 i))

-- the byte for zero has no step
pub step-none : (l : List Lane) (s : List Loss) (i : ℕ) → Steps (symbols l) s → i < 32 → i < length l
    → (get_or l i (record { 0 = 0 })).0 ≡ 255
    → loss s i ≡ 0
step-none l s i p h b e = step-zero _ s i p h (symbols-at l i b ∙ ap symbol e ∙ symbol-none)

pub step_term : (f : Series) (s : List Loss) (i : ℕ) (y : F)
    → Steps f s → i < 32 → y ≡ f i ⊙ W (loss s i) → y ≡ terms (W 1) f i
step_term f s i y p h e =
    e ∙ by_cases (f i ≟ 𝟎)
    (λ z. rw (terms-at, z) (zero-⊙ _ ∙ sym (zero-⊙ _)))
    (λ z. ap (λ j. f i ⊙ W j) (step_other f s i p h z) ∙ ap (λ t. f i ⊙ t) (W-power i) ∙ sym (terms-at (W 1) f i))
