-- The data of a block, in the order in which they were written: FORMAT 3.7.
--
--   data_before p i b    the data of the first i subwords of the block b, one after the other
--   data_of p b       those of all subwords
--
-- Proved: the data of a subword are as many as its data positions (part_length), and those of the first i subwords as
-- many as the data before subword i (before-length); how one part more is gathered (before_more). From a block that
-- encodes data, these data are gathered (data-written).
use Rattle.std.specs.Prelude.{ℕ, zero, suc, ◌+◌, ◌-◌, ◌*◌, ◌≤◌, ◌<◌, ◌≡◌, refl, List, [], ◌++◌, length, get_or, take}
use Rattle.std.specs.Prelude.{drop, Ok}
use Rattle.std.proofs.Common.{sym, ap, ap₂, ◌∙◌, add-one, suc-mul, arith, length-drop, length-append, length-take-le}
use Rattle.std.proofs.Common.{take-add, take_all, take_at, get_or-take, get_or-drop, ext_get_or}
use Rattle.std.proofs.Math.Seq.{take-append-add}
use Rattle.field.specs.Field.{of, of_inj}
use Rattle.series.specs.Array.{bytes, read_at}
use Rattle.series.specs.Part.{splice}
use Rattle.profile.specs.declared.Profile.{Profile}
use Rattle.profile.specs.Definition.{checks, data_size, data_length, data_start}
use Rattle.profile.specs.Valid.{checks-below, data_size-is, data_start-most}
use Rattle.profile.specs.FetchDefinition.{part}
use Rattle.profile.specs.FetchLaws.{Within, end_in}
use Rattle.code.specs.Definition.{Encodes}
use Rattle.code.specs.Block.{subword-at}
use Rattle.block.specs.Parts.{Fits, inside}

abbrev pub data_before : Profile → ℕ → List ℕ → List ℕ
data_before p zero b = []
data_before p (suc i) b = data_before p i b ++ part (Ok p) i b

abbrev pub data_of : Profile → List ℕ → List ℕ
data_of p b = data_before p p.subwords b

-- ---- sizes

pub within : (p : Profile) (b : List ℕ) (i : ℕ) → Fits p b → i < p.subwords → Within p (length b) i
within p b i f h = record { subword = h; some = checks-below p f.valid i; size = f.size }

pub part_length : (p : Profile) (b : List ℕ) (i : ℕ) → Fits p b → i < p.subwords
    → length (part (Ok p) i b) ≡ data_length p i
part_length p b i f h =
    let a = i * p.length + checks p i in
    let n : (i + 1) * p.length ≡ i * p.length + p.length = rw add-one (omega (arith, suc-mul i p.length)) in
    let size : (i + 1) * p.length - a ≡ data_length p i = omega (arith, n) in
    length-take-le ((i + 1) * p.length - a) (drop a b)
    (omega (arith, n, end_in (within p b i f h), checks-below p f.valid i, length-drop a b))
    ∙ size

pub before-length : (p : Profile) (b : List ℕ) → Fits p b → (i : ℕ) → i ≤ p.subwords
    → length (data_before p i b) ≡ data_start p i
before-length p b f zero h = refl
before-length p b f (suc i) h =
    length-append (data_before p i b) (part (Ok p) i b)
    ∙ ap₂ ◌+◌ (before-length p b f i (omega arith)) (part_length p b i f h)

-- there are not many
pub data-most : (p : Profile) (b : List ℕ) → Fits p b → data_size p ≤ 2040
data-most p b f = omega (arith, inside p b 0 f f.valid.subwords.0, f.size)

-- ---- one part more

-- a subword's data fit behind those of the subwords before it
pub room : (p : Profile) (b : List ℕ) (i : ℕ) → Fits p b → i < p.subwords
    → data_start p i + length (part (Ok p) i b) ≤ data_size p
room p b i f h = omega (arith, part_length p b i f h, data_start-most p f.valid (suc i) h)

-- y is the part of subword i, written behind the others
pub before_more : (p : Profile) (b : List ℕ) (i at n : ℕ) (out y part-i : List ℕ) → Fits p b → i < p.subwords
    → at ≡ data_start p i → length out ≡ data_size p → take at out ≡ data_before p i b
    → part-i ≡ part (Ok p) i b → y ≡ part-i → n ≡ length part-i
    → (at + length part-i ≡ data_start p (i + 1)) × (length (splice at n y out) ≡ data_size p)
    × (take (at + length part-i) (splice at n y out) ≡ data_before p (i + 1) b)
before_more p b i at n out y part-i f h start size before is same long =
    let l : length y ≡ n = ap length same ∙ sym long in
    let k : length part-i ≡ data_length p i = ap length is ∙ part_length p b i f h in
    let next : data_start p (i + 1) ≡ data_start p i + data_length p i = ap (data_start p) (add-one i) in
    let fits : at + n ≤ length out = omega (arith, k, data_start-most p f.valid (suc i) h) in
    let front = length-take-le at out (omega arith) in
    let rest : length (drop n (drop at out)) ≡ length out - at - n =
    length-drop n (drop at out) ∙ ap (λ m. m - n) (length-drop at out) in
    let end : at + length part-i ≡ length (take at out) + n = omega (arith, front) in (
      omega (arith, k, next),
      length-append (take at out) _ ∙ ap (λ m. length (take at out) + m) (length-append y (drop n (drop at out)))
          ∙ omega (arith, front, l, rest),
      ap (λ m. take m (splice at n y out)) end
          ∙ take-append-add (take at out) (y ++ drop n (drop at out)) n
          ∙ ap₂ ◌++◌ before (take_at y (drop n (drop at out)) n l ∙ same ∙ is)
          ∙ ap (λ m. data_before p m b) (sym (add-one i)),
    )

-- the last part fills what is lent
pub before-all : (p : Profile) (b out : List ℕ) (at i : ℕ) → Fits p b → i ≡ p.subwords → at ≡ data_start p i
    → length out ≡ data_size p
    → take at out ≡ data_before p i b → out ≡ data_of p b
before-all p b out at i f e is size before =
    let all : length out ≤ at = omega (arith, is, ap (data_start p) e, data_size-is p f.valid, size) in
    sym (take_all at out all) ∙ before ∙ ap (λ i. data_before p i b) e

-- ---- data that were written

module _ (p : Profile) (d b : List ℕ) (f : Fits p b) (size : length d ≡ data_size p)
    (small-d : (i : ℕ) → get_or d i 0 < 256) (small_b : (i : ℕ) → get_or b i 0 < 256)
    (e : Encodes p (bytes d) (bytes b)) where
  symbol : (i q : ℕ) → i < p.subwords → q < data_length p i
      → get_or b (i * p.length + checks p i + q) 0 ≡ get_or d (data_start p i + q) 0
  symbol i q h l =
      let a = i * p.length + (checks p i + q) in
      let k = data_start p i + q in
      let assoc : i * p.length + checks p i + q ≡ a = omega arith in
      let same : of (get_or b a 0) ≡ of (get_or d k 0) =
      sym (read_at of 0 b a) ∙ sym (subword-at p.length (bytes b) i (checks p i + q)) ∙ e.carries i h q l
      ∙ read_at of 0 d k in
      ap (λ a. get_or b a 0) assoc ∙ of_inj (get_or b a 0) (get_or d k 0) (small_b a) (small-d k) same

  part_data : (i : ℕ) → i < p.subwords
      → part (Ok p) i b ≡ take (data_length p i) (drop (data_start p i) d)
  part_data i h =
      let l = part_length p b i f h in
      let r : length (take (data_length p i) (drop (data_start p i) d)) ≡ data_length p i =
      length-take-le (data_length p i) (drop (data_start p i) d)
      (omega (arith, length-drop (data_start p i) d, size, data_start-most p f.valid (suc i) h)) in
      let n : (i + 1) * p.length - (i * p.length + checks p i) ≡ data_length p i =
      rw add-one (omega (arith, suc-mul i p.length)) in
      ext_get_or 0 _ _ (l ∙ sym r)
      (λ q u.
      let v : q < data_length p i = omega (arith, l) in
      get_or-take ((i + 1) * p.length - (i * p.length + checks p i)) (drop (i * p.length + checks p i) b) q 0
      (omega (arith, n))
      ∙ get_or-drop (i * p.length + checks p i) b q 0
      ∙ symbol i q h v
      ∙ sym (get_or-take (data_length p i) (drop (data_start p i) d) q 0 v ∙ get_or-drop (data_start p i) d q 0))

  before_front : (i : ℕ) → i ≤ p.subwords → data_before p i b ≡ take (data_start p i) d
  before_front zero h = refl
  before_front (suc i) h =
      ap₂ ◌++◌ (before_front i (omega arith)) (part_data i h) ∙ sym (take-add (data_start p i) (data_length p i) d)

  pub data-written : data_of p b ≡ d
  data-written =
      before_front p.subwords (omega arith)
      ∙ take_all (data_start p p.subwords) d (omega (arith, data_size-is p f.valid, size))
