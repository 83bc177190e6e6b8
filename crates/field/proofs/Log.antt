-- Logarithms: every value but 𝟎 is a power of α, and of one exponent below 255.
--
-- Proved: pow-log, log-pow, log_lt; what each entry of the two tables is (power_table-at, power_table-last,
-- log_table-at).
use Rattle.std.specs.Prelude.{◌≡◌, refl, Bool, true, false, ◌&&◌, ◌||◌, ◌≢◌, List, [], ◌∷◌, ◌++◌, ℕ, zero, suc, ◌+◌}
use Rattle.std.specs.Prelude.{◌<◌, T, eqb, ltb, length, get_or}
use Rattle.std.proofs.Common.{ap, sym, ◌∙◌, add-zero, zero-add, add-suc, suc-add, arith, eqb→eq, ltb→lt, ext_get_or}
use Rattle.std.proofs.Math.Bool.{xor}
use Rattle.std.proofs.Math.ListN.{get_or-append}
use Rattle.std.proofs.Math.Seq.{get_or-append_seam}
use Rattle.field.specs.Definition.{F, 𝟎, 𝟏, α, ◌⊕◌, plus, times, scale, z⁸, horner, modulo, coefficients, ◌⊙◌}
use Rattle.field.specs.Definition.{pow, of, bit, byte, powers, place, log_of, log, power_table, tabulate, log_table}
use Rattle.field.specs.Product.{⊙_assoc, ⊙-left_comm, ⊙-one, one-⊙}
use Rattle.field.specs.Test.{all, all-at, and_both}
use Rattle.field.specs.Byte.{byte_of, byte_lt, byte_inj, byte-zero}
use Rattle.field.specs.Power.{pow-zero, pow-suc}

-- ---- the powers of α, one after the other

powers-at : (n : ℕ) (x : F) (k : ℕ) → k < n → get_or (powers n x) k 0 ≡ byte (pow α k ⊙ x)
unfolding powers
powers-at zero x k h = absurd (omega arith)
powers-at (suc n) x zero h = ap byte (sym (ap (λ (s : F). s ⊙ x) (pow-zero α) ∙ one-⊙ x))
powers-at (suc n) x (suc k) h =
    powers-at n (α ⊙ x) k (omega arith)
    ∙ ap byte (⊙-left_comm _ _ _ ∙ sym (⊙_assoc _ _ _) ∙ ap (λ (s : F). s ⊙ x) (sym (pow-suc α k)))

powers-one : (k : ℕ) → k < 255 → get_or (powers 255 𝟏) k 0 ≡ byte (pow α k)
powers-one k h = powers-at 255 𝟏 k h ∙ ap byte (⊙-one (pow α k))

-- ---- two tests of the list of the 255 powers, computed once

-- the power at k stands nowhere before
distinct : List ℕ → Bool
distinct t = all 255 (λ k. eqb (place (get_or t k 0) 0 t) k)

distinct_test : T (distinct (powers 255 𝟏))
unfolding distinct all powers place byte bit 𝟎 𝟏 α ◌⊙◌ times plus modulo horner scale z⁸ ◌⊕◌ coefficients xor
distinct_test = tt

-- every byte has a place below 255, and every byte but 0 stands there
complete : List ℕ → Bool
complete t = all 256 (λ b. ltb (place b 0 t) 255 && (eqb b 0 || eqb (get_or t (place b 0 t) 0) b))

complete_test : T (complete (powers 255 𝟏))
unfolding complete all powers place byte bit 𝟎 𝟏 α ◌⊙◌ times plus modulo horner scale z⁸ ◌⊕◌ coefficients xor
complete_test = tt

-- ---- logarithms

-- what the second test says of the byte b
complete-at : (b : ℕ) → b < 256 → T (ltb (log_of b) 255) × T (eqb b 0 || eqb (get_or (powers 255 𝟏) (log_of b) 0) b)
unfolding log_of complete
complete-at b h = and_both (ltb (log_of b) 255) _ (all-at 256 _ complete_test b h)

pub log_lt : (x : F) → log x < 255
unfolding log
log_lt x = ltb→lt (log x) 255 (complete-at (byte x) (byte_lt x)).0

pub pow-log : (x : F) → x ≢ 𝟎 → pow α (log x) ≡ x
unfolding log
pow-log x h =
    byte_inj (pow α (log x)) x
    (sym (powers-one (log x) (log_lt x))
    ∙ eqb→eq _ (byte x) (or_right (eqb (byte x) 0) _ nonzero (complete-at (byte x) (byte_lt x)).1))
  where
    nonzero : ¬ T (eqb (byte x) 0)
    nonzero t = h (byte_inj x 𝟎 (eqb→eq (byte x) 0 t ∙ sym byte-zero))

    or_right : (a b : Bool) → ¬ T a → T (a || b) → T b
    or_right true b n t = absurd (n tt)
    or_right false b n t = t

pub log-pow : (k : ℕ) → k < 255 → log (pow α k) ≡ k
unfolding log log_of distinct
log-pow k h = ap log_of (sym (powers-one k h)) ∙ eqb→eq _ k (all-at 255 _ distinct_test k h)

-- ---- the tables' rule

length-powers : (n : ℕ) (x : F) → length (powers n x) ≡ n
unfolding powers
length-powers zero x = refl
length-powers (suc n) x = ap suc (length-powers n (α ⊙ x))

pub power_table-at : (k : ℕ) → k < 255 → get_or power_table k 0 ≡ byte (pow α k)
unfolding power_table
power_table-at k h = get_or-append (powers 255 𝟏) (0 ∷ []) 0 k (omega (arith, length-powers 255 𝟏)) ∙ powers-one k h

pub power_table-last : get_or power_table 255 0 ≡ 0
unfolding power_table
power_table-last =
    ap (λ (n : ℕ). get_or (powers 255 𝟏 ++ (0 ∷ [])) n 0) (sym (length-powers 255 𝟏))
    ∙ get_or-append_seam (powers 255 𝟏) 0 [] 0

tabulate-at : (n i : ℕ) (f : ℕ → ℕ) (k : ℕ) → k < n → get_or (tabulate n i f) k 0 ≡ f (i + k)
unfolding tabulate
tabulate-at zero i f k h = absurd (omega arith)
tabulate-at (suc n) i f zero h = ap f (sym (add-zero i))
tabulate-at (suc n) i f (suc k) h = tabulate-at n (suc i) f k (omega arith) ∙ ap f (suc-add i k ∙ sym (add-suc i k))

pub log_table-at : (b : ℕ) → b < 256 → get_or log_table b 0 ≡ log (of b)
unfolding log_table log
log_table-at b h = tabulate-at 256 0 log_of b h ∙ ap log_of (zero-add b ∙ sym (byte_of b h))

pub log_table_lt : (b : ℕ) → b < 256 → get_or log_table b 0 < 255
log_table_lt b h = omega (arith, log_table-at b h, log_lt (of b))

length-tabulate : (n i : ℕ) (f : ℕ → ℕ) → length (tabulate n i f) ≡ n
unfolding tabulate
length-tabulate zero i f = refl
length-tabulate (suc n) i f = ap suc (length-tabulate n (suc i) f)

pub log_table-is : (l : List ℕ) → length l ≡ 256 → ((b : ℕ) → b < 256 → get_or l b 0 ≡ log (of b)) → l ≡ log_table
unfolding log_table
log_table-is l n h =
    ext_get_or 0 l _ (n ∙ sym (length-tabulate 256 0 log_of))
    (λ b s. let k : b < 256 = omega (arith, n) in h b k ∙ sym (log_table-at b k))
