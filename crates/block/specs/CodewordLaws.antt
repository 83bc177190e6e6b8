-- Laws of the codeword check.
--
-- Proved: a table of syndromes that is zero says that the subwords are in the code of t0, and a codeword has such a
-- table (zeros-subwords, not_zeros); then the nested words' syndromes below 2 t0 are zero too, and the block is a
-- codeword exactly if those from there on are (check-passes, check_fails); a nested word's further syndromes are the
-- values of its remainder (word-syndrome). The word passes if all these are zero, as a part of their array
-- (past-passes), and the block is no codeword if one of them is not (past_fails).
use Rattle.std.specs.Prelude.{ℕ, zero, suc, ◌+◌, ◌-◌, ◌*◌, ◌≤◌, ◌<◌, ◌≡◌, ◌≢◌, true, false, List, [], ◌∷◌, length, take}
use Rattle.std.specs.Prelude.{drop, get_or}
use Rattle.std.proofs.Common.{sym, ap, ◌∙◌, true≢false, arith, lt-ltb, le-ltb, get_or-take, get_or-drop}
use Rattle.std.proofs.Math.Bool.{decide_iff}
use Rattle.std.proofs.Math.Decide.{dec_lt}
use Rattle.field.specs.declared.Gf.{Gf}
use Rattle.field.specs.Field.{F, 𝟎, ◌⊙◌, α, pow, ⊙-zero, val}
use Rattle.series.specs.Sum.{sum-zero}
use Rattle.series.specs.Series.{Series, O, O-at}
use Rattle.series.specs.Shift.{cut, cut_low, cut_unique}
use Rattle.series.specs.Array.{bytes}
use Rattle.series.specs.Decide.{holds, holds_yes, holds_no}
use Rattle.polynomial.specs.Polynomial.{row, row_at}
use Rattle.profile.specs.declared.Profile.{Profile}
use Rattle.profile.specs.Definition.{capability, first-root, checks}
use Rattle.profile.specs.Valid.{Valid, checks-is, checks_mono, checks-most}
use Rattle.code.specs.Word.{syndrome}
use Rattle.divider.specs.ReedSolomonResidue.{residue, Residual, residue-from}
use Rattle.code.specs.Definition.{syndrome_of, nested, Codeword}
use Rattle.code.specs.Block.{syndrome-nested}
use Rattle.code.specs.Encoding.{codeword?}
use Rattle.code.specs.Check.{Subwords, received}
use Rattle.block.specs.Table.{table}
use Rattle.block.specs.Parts.{prefix-residue}
use Rattle.block.specs.CodewordDefinition.{further, zeros?, left, Vanish, Remainders}

-- ---- the subwords

pub zeros-subwords : (p : Profile) (s : Series) (t : List (List Gf))
    → Valid p → table t ≡ received p s (2 * p.t0) → holds (zeros? t) ≡ true → Subwords p s
zeros-subwords p s t ok is e i h j l =
    sym (cut_low (2 * p.t0) _ j l)
    ∙ (rw (lt-ltb i p.subwords h) at (sym (ap (λ (f : ℕ → Series). f i j) is)))
    ∙ ap (λ (f : Series). f j) ((decide_iff (zeros? t)).0 e i (omega (arith, ok.subwords.1)))
    ∙ O-at j

zeros-clean : (p : Profile) (s : Series) (t : List (List Gf))
    → table t ≡ received p s (2 * p.t0) → Codeword p s → (i : ℕ) → table t i ≡ O
zeros-clean p s t is c i = ap (λ (f : ℕ → Series). f i) is ∙ go (dec_lt i p.subwords)
  where
    go : Dec (i < p.subwords) → received p s (2 * p.t0) i ≡ O
    go (yes h) =
        rw (lt-ltb i p.subwords h) (cut_unique _ _ O (λ j l. c.subwords i h j l ∙ sym (O-at j)) (λ j _. O-at j))
    go (no h) = rw (le-ltb i p.subwords (omega arith))

pub not_zeros : (p : Profile) (s : Series) (t : List (List Gf))
    → table t ≡ received p s (2 * p.t0) → holds (zeros? t) ≡ false → false ≡ holds (codeword? p s)
not_zeros p s t is e =
    sym (holds_no (codeword? p s) (λ c. true≢false (sym (holds_yes (zeros? t) (λ i _. zeros-clean p s t is c i)) ∙ e)))

-- ---- the nested words

-- a nested word that stands in an array, and its remainder
pub residual-left : (p : Profile) (s : Series) (l k : ℕ) (w x : List ℕ) → p.length ≤ length w → k ≡ further p
    → (l < p.nested → bytes w ≡ cut p.length (nested p s l))
    → Residual (first-root p + 2 * p.t0) k (take p.length w) x → l < p.nested
    → (length x ≡ 48) × (bytes x ≡ left p s l)
residual-left p s l k w x room count word r low = (
  r.long,
  r.is ∙ prefix-residue (first-root p + 2 * p.t0) p.length k w (nested p s l) room (word low)
      ∙ ap (λ k. residue (first-root p + 2 * p.t0) p.length k (nested p s l)) count,
)

pub three-rows : (p : Profile) (s : Series) (x y z : List ℕ) → Valid p
    → (0 < p.nested → (length x ≡ 48) × (bytes x ≡ left p s 0))
    → (1 < p.nested → (length y ≡ 48) × (bytes y ≡ left p s 1))
    → (2 < p.nested → (length z ≡ 48) × (bytes z ≡ left p s 2))
    → Remainders p s (x ∷ y ∷ z ∷ [])
three-rows p s x y z ok hx hy hz zero low = hx low
three-rows p s x y z ok hx hy hz (suc zero) low = hy low
three-rows p s x y z ok hx hy hz (suc (suc zero)) low = hz low
three-rows p s x y z ok hx hy hz (suc (suc (suc l))) low = absurd (omega (arith, ok.nested))

module _ (p : Profile) (s : Series) (inner : Subwords p s) where
  nested-low : (l j : ℕ) → j < 2 * p.t0 → syndrome_of p (nested p s l) j ≡ 𝟎
  nested-low l j h =
      syndrome-nested p s l j ∙ sum-zero p.subwords _ (λ i u. ap (λ x. pow α (i * l) ⊙ x) (inner i u j h) ∙ ⊙-zero _)

  pub check-passes : ((l : ℕ) → l < p.nested → Vanish p s l) → true ≡ holds (codeword? p s)
  check-passes h = sym (holds_yes (codeword? p s) (record {
    subwords = inner;
    nested_words = λ l u j q. go l u j q (dec_lt j (2 * p.t0));
  }))
    where
      go : (l : ℕ) → l < p.nested → (j : ℕ) → j < 2 * capability p (p.nested - l) → Dec (j < 2 * p.t0)
          → syndrome_of p (nested p s l) j ≡ 𝟎
      go l u j q (yes low) = nested-low l j low
      go l u j q (no high) = h l u j (omega arith) (omega (arith, checks-is p l))

-- nested word l by the values x of its remainder, which the array r holds
module _ (p : Profile) (s : Series) (ok : Valid p) (l k c : ℕ) (r : List ℕ) (x : List Gf) (count : k ≡ further p)
    (asked : c ≡ checks p l)
    (holds-left : (length r ≡ 48) × (bytes r ≡ left p s l))
    (is : row x ≡ cut c (syndrome (first-root p) (length (take k r)) (bytes (take k r)))) where
  pub word-syndrome : (j : ℕ) → 2 * p.t0 ≤ j → j < checks p l → row x j ≡ syndrome_of p (nested p s l) j
  word-syndrome j low h =
      ap (λ (f : Series). f j) is
      ∙ cut_low c _ j (omega (arith, asked))
      ∙ ap (λ k. syndrome (first-root p) (length (take k r)) (bytes (take k r)) j) count
      ∙ residue-from (first-root p) (2 * p.t0) p.length (further p) (nested p s l)
      (omega (arith, checks-most p ok 0)) r (omega (arith, holds-left.0, checks-most p ok 0)) holds-left.1 j low
      (omega (arith, checks_mono p ok 0 l (omega arith)))

  pub check_fails : (j : ℕ) → l < p.nested → 2 * p.t0 ≤ j → j < checks p l → row x j ≢ 𝟎
      → false ≡ holds (codeword? p s)
  check_fails j h low q n = sym (holds_no (codeword? p s)
      (λ c. n (word-syndrome j low q ∙ c.nested_words l h j (omega (arith, checks-is p l)))))

  -- the values from number a on, as a part of the array
  module _ (a : ℕ) where
    abbrev past : ℕ → F
    past i = val (get_or (take (c - a) (drop a x)) i (record { 0 = 0 }))

    past-is : (i : ℕ) → i < c - a → past i ≡ row x (a + i)
    past-is i h =
        ap val (get_or-take (c - a) _ i _ h ∙ get_or-drop a x i _)
        ∙ sym (row_at x (a + i) (omega (arith, asked, checks-most p ok l)))

    pub past-passes : ((i : ℕ) → i < c - a → past i ≡ 𝟎) → a ≤ 2 * p.t0 → Vanish p s l
    past-passes e first j low q =
        let at : j ≡ a + (j - a) = omega arith in
        let here : j - a < c - a = omega (arith, asked) in
        sym (word-syndrome j low q) ∙ ap (row x) at ∙ sym (past-is (j - a) here) ∙ e (j - a) here

    pub past_fails : (i : ℕ) → past i ≢ 𝟎 → i < c - a → 2 * p.t0 ≤ a → l < p.nested → false ≡ holds (codeword? p s)
    past_fails i n here first u =
        check_fails (a + i) u (omega arith) (omega (arith, asked)) (λ e. n (past-is i here ∙ e))
