-- Laws of fetching.
--
--   Within p s i   subword i of the profile p is one of a block of s symbols, and has data
--
-- Proved: it is so of an accepted fetch; the data positions are in the block; they are some.
use Rattle.std.specs.Prelude.{ℕ, zero, suc, ◌+◌, ◌-◌, ◌*◌, ◌≤◌, ◌<◌, ◌≡◌, refl, false, List, [], ◌∷◌, length, take}
use Rattle.std.specs.Prelude.{drop, Ok}
use Rattle.std.proofs.Common.{ap₂, mul-le-mul_right, suc-mul, add-one, arith, ltb-true, eqb-true, length-drop}
use Rattle.profile.specs.declared.Profile.{Profile}
use Rattle.profile.specs.Definition.{block_size, checks}
use Rattle.profile.specs.declared.questions.Caller.TheVariants.{Fetch}
use Rattle.profile.specs.Questions.{read, lent, fetching}
use Rattle.profile.specs.QuestionsLaws.{asked_yes}
use Rattle.profile.specs.Valid.{common-valid, checks-below}
use Rattle.profile.specs.FetchDefinition.{between, part, empty}

pub record Within (p : Profile) (s i : ℕ) : Type 0 where
  pub subword : i < p.subwords
  pub some : checks p i < p.length
  pub size : s ≡ block_size p

pub fetching-below : (b : List ℕ) (s i : ℕ) (p : Profile) → fetching b s i ≡ Ok p → i < p.subwords
fetching-below b s i p e =
    let (_, _, own) = asked_yes Fetch (lent b s 0 i) (read b) p e in
    ltb-true i p.subwords own.subword_below

-- n is a byte
pub accepted : (b : List ℕ) (s i : ℕ) (p : Profile) → fetching b s i ≡ Ok p → p.length ≤ 255 → Within p s i
accepted b s i p e small =
    let (_, common, own) = asked_yes Fetch (lent b s 0 i) (read b) p e in
    record {
      subword = fetching-below b s i p e;
      some = checks-below p (common-valid _ p common small) i;
      size = eqb-true s (block_size p) own.input_block;
    }

-- ---- parts

pub end_in : {p : Profile} {s i : ℕ} → Within p s i → i * p.length + p.length ≤ s
end_in {p} {s} {i} fits =
    rw fits.size (omega (arith, suc-mul i p.length, mul-le-mul_right p.length fits.subword))

-- n symbols from the start of a subword on, without its check symbols
pub part-is : (p : Profile) (i a e : ℕ) (block : List ℕ)
    → a ≡ i * p.length + checks p i → e ≡ i * p.length + p.length → between a e block ≡ part (Ok p) i block
part-is p i a e block h k =
    let end : e ≡ (i + 1) * p.length = rw add-one (omega (arith, k, suc-mul i p.length)) in
    ap₂ (λ a e. between a e block) h end

take-some : (n : ℕ) (l : List ℕ) → 0 < n → 0 < length l → empty (take n l) ≡ false
take-some zero l h k = absurd (omega arith)
take-some (suc n) [] h k = absurd (omega arith)
take-some (suc n) (x ∷ l) h k = refl

pub between-some : (a e : ℕ) (l : List ℕ) → a < e → e ≤ length l → empty (between a e l) ≡ false
between-some a e l h k = take-some (e - a) (drop a l) (omega arith) (omega (arith, length-drop a l))
