-- The rows of the first subwords of a block.
--
--   FirstRows p s i r   the first i rows of the table r are the syndromes j < 2 t0 of the subwords, and the
--                       others are zero
--
-- Proved: one row more (more_rows), from the remainder of its subword, a part of the block (part-row).
use Rattle.std.specs.Prelude.{ℕ, ◌+◌, ◌*◌, ◌<◌, ◌≡◌, List, length, set}
use Rattle.std.proofs.Common.{ap, ◌∙◌, arith, length-set}
use Rattle.field.specs.declared.Gf.{Gf}
use Rattle.series.specs.Series.{Series}
use Rattle.series.specs.Shift.{cut}
use Rattle.series.specs.Array.{bytes}
use Rattle.polynomial.specs.Polynomial.{row}
use Rattle.profile.specs.declared.Profile.{Profile}
use Rattle.profile.specs.Definition.{first-root}
use Rattle.code.specs.Word.{syndrome}
use Rattle.divider.specs.ReedSolomonResidue.{residue, Residual}
use Rattle.code.specs.Definition.{syndrome_of, subword}
use Rattle.block.specs.Parts.{Part, part-residue}
use Rattle.block.specs.Table.{table, rows_more}
use Rattle.code.specs.Check.{rows}

abbrev pub row_of : Profile → Series → ℕ → Series
row_of p s i = cut (2 * p.t0) (syndrome_of p (subword p.length s i))

abbrev pub FirstRows : Profile → Series → ℕ → List (List Gf) → Type 0
FirstRows p s i r = (length r ≡ 8) × (table r ≡ rows i (row_of p s))

pub more_rows : (p : Profile) (s : Series) (i : ℕ) (r : List (List Gf)) (x : List Gf)
    → i < 8 → row x ≡ row_of p s i → FirstRows p s i r
    → FirstRows p s (i + 1) (set r i x)
more_rows p s i r x h is (long, e) = (length-set r i x ∙ long, rows_more r i x _ (omega arith) e is)

-- the remainder of subword i
pub part-row : (p : Profile) (b : List ℕ) (i q : ℕ) (l x : List ℕ) (y : List Gf)
    → q ≡ 2 * p.t0 → Part p b i l → Residual (first-root p) q l x
    → ((n : ℕ) (w : Series) → bytes x ≡ residue (first-root p) n q w → row y ≡ cut q (syndrome (first-root p) n w))
    → row y ≡ row_of p (bytes b) i
part-row p b i q l x y count w r from =
    from p.length (subword p.length (bytes b) i) (r.is ∙ part-residue (first-root p) w q)
    ∙ ap (λ q. cut q (syndrome_of p (subword p.length (bytes b) i))) count
