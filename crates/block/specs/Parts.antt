-- Blocks of bytes, and words that stand in parts of arrays.
--
--   Fits p b       b is a block of the size that the valid profile p says
--   Part p b i l   l is subword i of the block b
use Rattle.std.specs.Prelude.{ℕ, suc, ◌+◌, ◌*◌, ◌≤◌, ◌<◌, ◌≡◌, List, length, take, drop}
use Rattle.std.proofs.Common.{ap, ◌∙◌, suc-mul, mul-le-mul_right, arith, length-drop, length-take-le}
use Rattle.std.proofs.Math.Path.{fun_ext}
use Rattle.field.specs.Field.{of}
use Rattle.series.specs.Series.{Series}
use Rattle.series.specs.Shift.{cut, cut_low}
use Rattle.series.specs.Array.{bytes}
use Rattle.series.specs.Part.{read_take}
use Rattle.profile.specs.declared.Profile.{Profile}
use Rattle.profile.specs.Definition.{block_size}
use Rattle.profile.specs.Valid.{Valid}
use Rattle.code.specs.Word.{syndrome}
use Rattle.code.specs.Systematic.{syndrome_cong}
use Rattle.divider.specs.ReedSolomonResidue.{residue, residue_cong}
use Rattle.code.specs.Definition.{subword}
use Rattle.code.specs.Combined.{subword-part}

pub record Fits (p : Profile) (b : List ℕ) : Type 0 where
  pub valid : Valid p
  pub size : length b ≡ block_size p

-- subword i lies inside the block, and a block is small
pub inside : (p : Profile) (b : List ℕ) (i : ℕ) → Fits p b → i < p.subwords
    → (i * p.length + p.length ≤ length b) × (length b ≤ 2040)
inside p b i f h =
    let here : suc i * p.length ≤ p.subwords * p.length = mul-le-mul_right p.length h in
    let all : p.subwords * p.length ≤ 8 * p.length = mul-le-mul_right p.length f.valid.subwords.1 in
    (omega (arith, here, suc-mul i p.length, f.size), omega (arith, all, f.valid.length.1, f.size))

-- ---- a word that stands in the first n entries of an array

prefix-at : (n : ℕ) (l : List ℕ) (g : Series) → bytes l ≡ cut n g → (q : ℕ) → q < n → bytes (take n l) q ≡ g q
prefix-at n l g e q b = read_take of 0 n l q b ∙ ap (λ (f : Series). f q) e ∙ cut_low n g q b

pub prefix-residue : (first n k : ℕ) (l : List ℕ) (g : Series) → n ≤ length l → bytes l ≡ cut n g
    → residue first (length (take n l)) k (bytes (take n l)) ≡ residue first n k g
prefix-residue first n k l g h e =
    ap (λ m. residue first m k (bytes (take n l))) (length-take-le n l h)
    ∙ residue_cong first n k _ g (prefix-at n l g e)

-- ---- a subword as a part of the block, k being the number of its symbols that the code has

pub part_length : (n i k : ℕ) (b : List ℕ) → k ≡ n → i * n + n ≤ length b → length (take k (drop (i * n) b)) ≡ n
part_length n i k b e h =
    ap (λ k. length (take k (drop (i * n) b))) e
    ∙ length-take-le n (drop (i * n) b) (omega (arith, length-drop (i * n) b))

pub record Part (p : Profile) (b : List ℕ) (i : ℕ) (l : List ℕ) : Type 0 where
  pub long : length l ≡ p.length
  pub is : bytes l ≡ cut p.length (subword p.length (bytes b) i)

pub part : (p : Profile) (b : List ℕ) (i k : ℕ) → Fits p b → i < p.subwords → k ≡ p.length
    → Part p b i (take k (drop (i * p.length) b))
part p b i k f h e =
    let room = (inside p b i f h).0 in record {
      long = part_length p.length i k b e room;
      is = ap (λ k. bytes (take k (drop (i * p.length) b))) e ∙ subword-part p.length b i room;
    }

module _ (first : ℕ) {p : Profile} {b : List ℕ} {i : ℕ} {l : List ℕ} (w : Part p b i l) where
  at : (q : ℕ) → q < p.length → bytes l q ≡ subword p.length (bytes b) i q
  at q h = ap (λ (f : Series). f q) w.is ∙ cut_low p.length _ q h

  pub part-syndrome : syndrome first (length l) (bytes l) ≡ syndrome first p.length (subword p.length (bytes b) i)
  part-syndrome =
      ap (λ n. syndrome first n (bytes l)) w.long ∙ fun_ext (syndrome_cong first p.length _ _ at)

  pub part-residue : (r : ℕ)
      → residue first (length l) r (bytes l) ≡ residue first p.length r (subword p.length (bytes b) i)
  part-residue r = ap (λ n. residue first n r (bytes l)) w.long ∙ residue_cong first p.length r _ _ at
