-- Tables of syndromes that are zero.
--
--   zero? l   whether the table l is zero
--
-- Proved, of the answer `holds (zero? l)`: if it is true, the row is zero (zero_row); if it is false, it is not
-- (zero_not). A table whose entries are zero is zero (row_zero); a test of all its values gives the answer
-- (zero-found).
use Rattle.std.specs.Prelude.{ℕ, ◌<◌, ◌≡◌, refl, ◌≢◌, ◌↔◌, Bool, true, false, IsTrue, List, map, length}
use Rattle.std.proofs.Common.{sym, ap, ◌∙◌, true≢false, arith}
use Rattle.std.proofs.Math.Path.{fun_ext}
use Rattle.std.proofs.Math.Logic.{by_cases}
use Rattle.std.proofs.Math.Logic.Dec
use Rattle.std.proofs.Math.Decide.{dec_lt}
use Rattle.field.specs.declared.Gf.{Gf}
use Rattle.field.specs.Field.{𝟎, ◌≟◌, val, val-zero}
use Rattle.series.specs.Series.{Series, O, O-at}
use Rattle.series.specs.Word.{entry}
use Rattle.series.specs.Decide.{holds, holds_yes, holds_no, all?}
use Rattle.kernel.specs.Symbol.{read-entry}
use Rattle.polynomial.specs.Polynomial.{row, below_row, row-values}

pub row_zero : (l : List Gf) → ((j : ℕ) → j < 48 → row l j ≡ 𝟎) → row l ≡ O
row_zero l h = fun_ext (λ j. by_cases (dec_lt j 48) (h j) (λ n. below_row l j (omega arith)) ∙ sym (O-at j))

unfoldable pub zero? : (l : List Gf) → Dec (row l ≡ O)
zero? l = Dec.of_iff (row_zero l, λ e j h. ap (λ (f : Series). f j) e ∙ O-at j) (all? 48 (λ j. row l j ≟ 𝟎))

pub zero-found : (l : List Gf) (b : Bool) → length l ≡ 48 → IsTrue b ↔ (entry (map val l) ≡ O) → b ≡ holds (zero? l)
zero-found l b h t = go b t
  where
    same : row l ≡ entry (map val l)
    same = row-values l h ∙ read-entry val (record { 0 = 0 }) val-zero l

    go : (b : Bool) → IsTrue b ↔ (entry (map val l) ≡ O) → b ≡ holds (zero? l)
    go true t = sym (holds_yes (zero? l) (same ∙ t.0 refl))
    go false t = sym (holds_no (zero? l) (λ z. true≢false (sym (t.1 (sym same ∙ z)))))

module _ (l : List Gf) where
  pub zero_row : holds (zero? l) ≡ true → row l ≡ O
  zero_row e = by_cases (zero? l) (λ z. z) (λ n. absurd (true≢false (sym e ∙ holds_no (zero? l) n)))

  pub zero_not : holds (zero? l) ≡ false → row l ≢ O
  zero_not e z = true≢false (sym (holds_yes (zero? l) z) ∙ e)
