-- Entries of one row put into another, one after the other.
--
-- Proved: an entry more goes into a window (row-window), and where the loop ends (window-end); only the entries inside
-- count (window_cong).
use Rattle.std.specs.Prelude.{ℕ, ◌+◌, ◌-◌, ◌≤◌, ◌<◌, ◌≡◌, List, length, set}
use Rattle.std.proofs.Common.{sym, ap, ap₂, ◌∙◌, arith, length-set}
use Rattle.std.proofs.Math.Path.{fun_ext}
use Rattle.std.proofs.Math.Logic.{by_cases}
use Rattle.std.proofs.Math.Decide.{dec_lt, dec_le, ℕ_discrete}
use Rattle.field.specs.declared.Gf.{Gf}
use Rattle.field.specs.Field.{val}
use Rattle.series.specs.Series.{Series}
use Rattle.series.specs.Array.{values, read-set-same, read-set-other}
use Rattle.polynomial.specs.Polynomial.{row, row-values}
use Rattle.staged_decoding.specs.Definition.{put, window}
use Rattle.staged_decoding.specs.Stage.{put_same, put_other}
use Rattle.staged_decoding.specs.Round.{window-low, window-high, window_in, window-none, window_more}

row_put : (l : List Gf) (j : ℕ) (v : Gf) → length l ≡ 48 → j < 48 → row (set l j v) ≡ put j (val v) (row l)
row_put l j v n h =
    row-values (set l j v) (length-set l j v ∙ n)
    ∙ fun_ext (λ k. go k (ℕ_discrete k j))
    ∙ ap (put j (val v)) (sym (row-values l n))
  where
    go : (k : ℕ) → Dec (k ≡ j) → values (set l j v) k ≡ put j (val v) (values l) k
    go k (yes e) = rw e (read-set-same val _ l j v (omega arith) ∙ sym (put_same j (val v) (values l)))
    go k (no e) = read-set-other val _ l j k v e ∙ sym (put_other j (val v) (values l) k e)

pub row-window : (l : List Gf) (a j : ℕ) (v : Gf) (g f : Series) → length l ≡ 48 → j < 48 → a ≤ j → val v ≡ g j
    → row l ≡ window a j g f
    → row (set l j v) ≡ window a (j + 1) g f
row-window l a j v g f n h le e is = row_put l j v n h ∙ ap₂ (put j) e is ∙ sym (window_more a j g f le)

-- the loop's last j is b, or a if b is less
pub window-end : (a b j : ℕ) (g f : Series) → a ≤ j → b ≤ j → j ≤ b + (a - b) → window a j g f ≡ window a b g f
window-end a b j g f h l most = go (dec_le a b)
  where
    go : Dec (a ≤ b) → window a j g f ≡ window a b g f
    go (yes d) = let e : j ≡ b = omega arith in ap (λ k. window a k g f) e
    go (no d) =
        let e : j ≡ a = omega arith in
        ap (λ k. window a k g f) e
        ∙ window-none a g f
        ∙ sym (fun_ext (λ k. by_cases (dec_lt k a) (window-low a b g f k) (λ q. window-high a b g f k (omega arith))))

pub window_cong : (a b : ℕ) (g h f : Series) → ((j : ℕ) → a ≤ j → j < b → g j ≡ h j) → window a b g f ≡ window a b h f
window_cong a b g h f same = fun_ext (λ j. go j (dec_lt j a) (dec_lt j b))
  where
    go : (j : ℕ) → Dec (j < a) → Dec (j < b) → window a b g f j ≡ window a b h f j
    go j (yes u) v = window-low a b g f j u ∙ sym (window-low a b h f j u)
    go j (no u) (yes v) = window_in a b g f j (omega arith) v ∙ same j (omega arith) v
        ∙ sym (window_in a b h f j (omega arith) v)
    go j (no u) (no v) = window-high a b g f j (omega arith) ∙ sym (window-high a b h f j (omega arith))
