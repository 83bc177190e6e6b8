-- Laws of blocks: a codeword is a matter of the first m × n symbols.
--
--   Agree p i s t    the blocks s and t have the same subwords from i on
--
-- Proved: blocks agree from subword i on where their symbols from i × n to m × n are the same (agree-block), and have
-- the same first m × n symbols where they agree from 0 on (block-agree); a block is a codeword, or encodes data, by its
-- subwords (codeword_cong, encodes_cong); the syndromes of a nested word are the sums of its subwords' syndromes
-- (syndrome-nested).
use Rattle.std.specs.Prelude.{ℕ, zero, suc, ◌+◌, ◌*◌, ◌/◌, ◌%◌, ◌≤◌, ◌<◌, ◌≡◌, refl}
use Rattle.std.proofs.Common.{sym, ◌∙◌, mul-zero, suc-mul, mul-le-mul_right, div-add-mod', mod-lt, div-lt_iff_lt-mul}
use Rattle.std.proofs.Common.{arith}
use Rattle.std.proofs.Math.Path.{ap}
use Rattle.field.specs.Field.{α, ◌⊙◌, pow}
use Rattle.series.specs.Sum.{sum, sum_cong}
use Rattle.series.specs.Series.{Series}
use Rattle.profile.specs.declared.Profile.{Profile}
use Rattle.profile.specs.Definition.{first-root, checks, block_size}
use Rattle.code.specs.Systematic.{syndrome_cong, syndrome-sum}
use Rattle.code.specs.Definition.{syndrome_of, subword, nested, Codeword, Carries, Encodes}

pub subword-at : (n : ℕ) (s : Series) (i q : ℕ) → subword n s i q ≡ s (i * n + q)
unfolding subword
subword-at n s i q = refl

-- ---- positions

pub position-most : (m n i q : ℕ) → i < m → q < n → i * n + q < m * n
position-most m n i q h l = omega (arith, suc-mul i n, mul-le-mul_right n h)

-- ---- what depends on the first m × n symbols only

abbrev pub Agree : Profile → ℕ → Series → Series → Type 0
Agree p i s t = (k : ℕ) → i ≤ k → k < p.subwords → (q : ℕ) → q < p.length
    → subword p.length s k q ≡ subword p.length t k q

pub agree-block : (p : Profile) (i : ℕ) (s t : Series)
    → ((a : ℕ) → i * p.length ≤ a → a < block_size p → s a ≡ t a) → Agree p i s t
unfolding subword
agree-block p i s t h k u l q r =
    h (k * p.length + q) (omega (arith, mul-le-mul_right p.length u))
    (position-most p.subwords p.length k q l r)

pub block-agree : (p : Profile) (s t : Series) → Agree p 0 s t → (a : ℕ) → a < block_size p → s a ≡ t a
unfolding subword
block-agree p s t h a l =
    let pos : 0 < p.length = some p.length l in
    rw (div-add-mod' a p.length) at
    (h (a / p.length) (omega arith) ((div-lt_iff_lt-mul pos).1 l) (a % p.length) (mod-lt a pos))
  where
    some : (n : ℕ) → a < p.subwords * n → 0 < n
    some zero l = absurd (omega (arith, mul-zero p.subwords))
    some (suc n) l = omega arith

module _ (p : Profile) (s t : Series) (same : Agree p 0 s t) where
  nested_cong : (l q : ℕ) → q < p.length → nested p s l q ≡ nested p t l q
  unfolding nested
  nested_cong l q h = sum_cong p.subwords _ _ (λ i r. ap (λ x. pow α (i * l) ⊙ x) (same i (omega arith) r q h))

  pub codeword_cong : Codeword p s → Codeword p t
  codeword_cong c = record {
    subwords = λ i h j l.
        sym (syndrome_cong (first-root p) p.length _ _ (same i (omega arith) h) j) ∙ c.subwords i h j l;
    nested_words = λ l h j k.
        sym (syndrome_cong (first-root p) p.length _ _ (nested_cong l) j) ∙ c.nested_words l h j k;
  }

  pub carries_cong : (d : Series) → Carries p d s → Carries p d t
  carries_cong d c i h q l = sym (same i (omega arith) h (checks p i + q) (omega arith)) ∙ c i h q l

  pub encodes_cong : (d : Series) → Encodes p d s → Encodes p d t
  encodes_cong d e = record { code = codeword_cong e.code; carries = carries_cong d e.carries }

-- ---- syndromes of nested words

pub syndrome-nested : (p : Profile) (s : Series) (l j : ℕ)
    → syndrome_of p (nested p s l) j
    ≡ sum p.subwords (λ i. pow α (i * l) ⊙ syndrome_of p (subword p.length s i) j)
unfolding nested
syndrome-nested p s l j = syndrome-sum (first-root p) p.subwords p.length _ (subword p.length s) j
