-- The encoding of data: the one block that is a codeword and carries them.
--
--   codeword? p s    whether the block s is a codeword
--   encodes? p d s   whether the block s encodes the data d
--   encoding p d     the first word of m × n symbols that encodes the data d
--
-- Proved, for a valid profile: two blocks that encode the same data are the same (encodes_unique); a word that encodes
-- d is the encoding (encoding-is, encoding-bytes); every d has one (encoding-some), made subword by subword from the
-- last to the first.
use Rattle.std.specs.Prelude.{ℕ, zero, suc, ◌+◌, ◌-◌, ◌*◌, ◌≤◌, ◌<◌, ◌≡◌, List, map, length}
use Rattle.std.proofs.Math.Path.{sym, ap}
use Rattle.std.proofs.Common.{◌∙◌, suc-mul, mul-le-mul_right}
use Rattle.std.proofs.Math.Logic.{ite, if_pos, if_neg}
use Rattle.std.proofs.Math.Logic.Dec
use Rattle.std.proofs.Math.Option.{Option, some}
use native.Mathlib.Omega.{arith}
use Rattle.std.proofs.Math.Decide.{dec_lt, ℕ_discrete}
use Rattle.std.proofs.lemmas.List.{length-map}
use Rattle.field.specs.Field.{F, 𝟎, ◌⊕◌, ◌≟◌, of}
use Rattle.series.specs.Series.{Series, O}
use Rattle.series.specs.Decide.{all?}
use Rattle.series.specs.Word.{entry, word, length-word, entry-word, word_ext}
use Rattle.series.specs.Array.{bytes, bytes-entry}
use Rattle.series.specs.First.{first, first_one}
use Rattle.profile.specs.declared.Profile.{Profile}
use Rattle.profile.specs.Definition.{capability, first-root, checks, data_length, data_start, block_size}
use Rattle.profile.specs.Valid.{Valid}
use Rattle.code.specs.Word.{syndrome, InCode, systematic}
use Rattle.code.specs.Definition.{subword, nested, Codeword, Carries, Encodes}
use Rattle.code.specs.Block.{Agree, agree-block, block-agree, encodes_cong}
use Rattle.code.specs.Triangle.{carried, carried_cong}
use Rattle.code.specs.Right.{Right, all_right, right-all, right_stays, right_unique, right-step}

-- ---- decisions

in_code? : (f n t : ℕ) (w : Series) → Dec (InCode f n t w)
in_code? f n t w = all? (2 * t) (λ j. syndrome f n w j ≟ 𝟎)

pub codeword? : (p : Profile) (s : Series) → Dec (Codeword p s)
codeword? p s =
    Dec.of_iff (λ (a, b). record { subwords = a; nested_words = b }, λ c. (c.subwords, c.nested_words))
    (Dec.and
    (all? p.subwords (λ i. in_code? (first-root p) p.length p.t0 (subword p.length s i)))
    (all? p.nested (λ l. in_code? (first-root p) p.length (capability p (p.nested - l)) (nested p s l))))

carries? : (p : Profile) (d s : Series) → Dec (Carries p d s)
carries? p d s = all? p.subwords
    (λ i. all? (data_length p i) (λ q. subword p.length s i (checks p i + q) ≟ d (data_start p i + q)))

pub encodes? : (p : Profile) (d s : Series) → Dec (Encodes p d s)
encodes? p d s =
    Dec.of_iff (λ (a, b). record { code = a; carries = b }, λ e. (e.code, e.carries))
    (Dec.and (codeword? p s) (carries? p d s))

unfoldable pub encoding : Profile → List F → Option (List F)
encoding p d = first (block_size p) (λ w. encodes? p (entry d) (entry w))

-- ---- no other block

module _ (p : Profile) (ok : Valid p) (d s t : Series) (a : Encodes p d s) (b : Encodes p d t) where
  -- the last r subwords
  same-last : (r : ℕ) → r ≤ p.subwords → Agree p (p.subwords - r) s t
  same-last zero h = λ k u v. absurd (omega arith)
  same-last (suc r) h =
      let e : suc (p.subwords - suc r) ≡ p.subwords - r = omega arith in
      right_unique p ok d s t (p.subwords - suc r) (rw e (same-last r (omega arith)))
      (right-all p ok d s a (p.subwords - suc r) (omega arith))
      (right-all p ok d t b (p.subwords - suc r) (omega arith))

  pub encodes_unique : (k : ℕ) → k < block_size p → s k ≡ t k
  encodes_unique = block-agree p s t (λ k u v. same-last p.subwords (omega arith) k (omega arith) v)

-- all that an encoder has to show
pub encoding-is : (p : Profile) → Valid p → (d w : List F)
    → length w ≡ block_size p → Encodes p (entry d) (entry w) → encoding p d ≡ some w
unfolding encoding
encoding-is p ok d w l e =
    first_one (block_size p) _ w l e
    (λ v k f. word_ext (block_size p) v w k l (encodes_unique p ok (entry d) (entry v) (entry w) f e))

pub encoding-bytes : (p : Profile) → Valid p → (d s : List ℕ) → length s ≡ block_size p → Encodes p (bytes d) (bytes s)
    → encoding p (map of d) ≡ some (map of s)
encoding-bytes p ok d s l e =
    encoding-is p ok (map of d) (map of s) (length-map s of ∙ l) (rw (← bytes-entry d, ← bytes-entry s) e)

-- ---- every data has an encoding

-- the block s with subword i made to be w
over : ℕ → ℕ → Series → Series → Series
over n i w s a = ite (dec_lt a (suc i * n)) (w (a - i * n)) (s a)

over-same : (n i : ℕ) (w s : Series) (q : ℕ) → q < n → subword n (over n i w s) i q ≡ w q
unfolding over subword
over-same n i w s q h =
    let e : i * n + q - i * n ≡ q = omega arith in
    if_pos (dec_lt (i * n + q) (suc i * n)) (omega (arith, suc-mul i n)) _ _ ∙ ap w e

over-above : (n i : ℕ) (w s : Series) (k q : ℕ) → i < k → subword n (over n i w s) k q ≡ subword n s k q
unfolding over subword
over-above n i w s k q h =
    if_neg (dec_lt (k * n + q) (suc i * n)) (λ l. absurd (omega (arith, mul-le-mul_right n h))) _ _

module _ (p : Profile) (ok : Valid p) (d : Series) where
  -- subword i over the subwords above it
  module _ (i : ℕ) (s : Series) where
    given : Series
    given q = d (data_start p i + (q - checks p i)) ⊕ carried p s i q

    next : Series
    next = over p.length i (λ q. carried p s i q ⊕ systematic (first-root p) p.length (checks p i) given q) s

    next-above : Agree p (suc i) s next
    unfolding next
    next-above k h u q l = sym (over-above p.length i _ s k q h)

    next-right : Right p d next i
    unfolding next given
    next-right =
        right-step p ok d next (carried p s i) given i
        (λ q l. sym (carried_cong p s next i next-above q l))
        (λ q l. let e : checks p i + q - checks p i ≡ q = omega arith in
        ap (λ k. d (data_start p i + k) ⊕ carried p s i (checks p i + q)) e)
        (λ q l. over-same p.length i _ s q l)

  -- the last r subwords are right
  built : (r : ℕ) → r ≤ p.subwords → (s : Series) × ((i : ℕ) → i < p.subwords → p.subwords ≤ i + r → Right p d s i)
  built zero h = (O, λ i l u. absurd (omega arith))
  built (suc r) h =
      let (s, right) = built r (omega arith) in
      let i = p.subwords - suc r in
      (next i s, λ k l u. go s right k l u (ℕ_discrete k i))
    where
      go : (s : Series) → ((i : ℕ) → i < p.subwords → p.subwords ≤ i + r → Right p d s i)
          → (k : ℕ) → k < p.subwords → p.subwords ≤ k + suc r → Dec (k ≡ p.subwords - suc r)
          → Right p d (next (p.subwords - suc r) s) k
      go s right k l u (yes e) = rw e (next-right (p.subwords - suc r) s)
      go s right k l u (no e) =
          right_stays p d s _ k l (λ j v. next-above (p.subwords - suc r) s j (omega arith)) (right k l (omega arith))

  block : (s : Series) × Encodes p d s
  block = let (s, right) = built p.subwords (omega arith) in (s, all_right p ok d s (λ i h. right i h (omega arith)))

pub encoding-some : (p : Profile) → Valid p → (d : List F)
    → (w : List F) × (length w ≡ block_size p) × Encodes p (entry d) (entry w) × (encoding p d ≡ some w)
encoding-some p ok d =
    let (s, e) = block p ok (entry d) in
    let w = word (block_size p) s in
    let l : length w ≡ block_size p = length-word (block_size p) s in
    let same : Agree p 0 s (entry w) = agree-block p 0 s (entry w) (λ a u h. sym (entry-word (block_size p) s a h)) in
    let f : Encodes p (entry d) (entry w) = encodes_cong p s (entry w) same (entry d) e in
    (w, l, f, encoding-is p ok d w l f)
