-- Tables of syndromes, as arrays of arrays of symbols.
--
--   table t   a table of syndromes: row i as a series, zero where nothing is stored
--
-- Proved: an empty table has no rows (rows_none), and a loop that stores row after row goes on by rows_more.
use Rattle.std.specs.Prelude.{ℕ, zero, suc, ◌+◌, ◌<◌, ◌≡◌, List, [], length, get_or, set, replicate}
use Rattle.std.proofs.Common.{sym, ap, ◌∙◌, arith, get_or-set_same, get_or-set_other, lt-ltb, le-ltb}
use Rattle.std.proofs.Math.Path.{fun_ext}
use Rattle.std.proofs.Math.Decide.{dec_lt, ℕ_discrete}
use Rattle.field.specs.declared.Gf.{Gf}
use Rattle.field.specs.Field.{val, val-zero}
use Rattle.series.specs.Series.{Series, O}
use Rattle.series.specs.Shift.{cut, cut-none}
use Rattle.series.specs.Degree.{below-O, below-cut_eq}
use Rattle.series.specs.Array.{read-zeros}
use Rattle.polynomial.specs.Polynomial.{row, row-zeros}
use Rattle.code.specs.Check.{rows}

abbrev pub table : List (List Gf) → ℕ → Series
table t i = row (get_or t i [])

row-empty : row [] ≡ O
unfolding row
row-empty = ap (cut 48) (read-zeros val _ val-zero 0 O ∙ cut-none O) ∙ below-cut_eq 48 O (below-O 48)

pub rows_none : (f : ℕ → Series) → table (replicate 8 (replicate 48 (record { 0 = 0 }))) ≡ rows 0 f
rows_none f = fun_ext (λ i. same 8 i ∙ sym (rw (le-ltb i 0 (omega arith))))
  where
    same : (r i : ℕ) → row (get_or (replicate r (replicate 48 (record { 0 = 0 }))) i []) ≡ O
    same zero i = row-empty
    same (suc r) zero = row-zeros
    same (suc r) (suc i) = same r i

pub rows_more : (t : List (List Gf)) (i : ℕ) (r : List Gf) (f : ℕ → Series)
    → i < length t → table t ≡ rows i f → row r ≡ f i → table (set t i r) ≡ rows (i + 1) f
rows_more t i r f h e q = fun_ext (λ a. go a (ℕ_discrete a i) (dec_lt a i))
  where
    go : (a : ℕ) → Dec (a ≡ i) → Dec (a < i) → table (set t i r) a ≡ rows (i + 1) f a
    go a (yes s) l = rw (s, lt-ltb i (i + 1) (omega arith)) (ap row (get_or-set_same t i r [] h) ∙ q)
    go a (no s) (yes l) =
        ap row (get_or-set_other t i a r [] s) ∙ ap (λ (g : ℕ → Series). g a) e
        ∙ rw (lt-ltb a i l, lt-ltb a (i + 1) (omega arith))
    go a (no s) (no l) =
        ap row (get_or-set_other t i a r [] s) ∙ ap (λ (g : ℕ → Series). g a) e
        ∙ rw (le-ltb a i (omega arith), le-ltb a (i + 1) (omega arith))
