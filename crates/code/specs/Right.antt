-- Encoding subword by subword, from the last to the first.
--
--   Right p d s i   subword i of the block s carries its data of d, and its corner has zero syndromes below
--                   `checks p i`
--
-- Proved, for a valid profile: a block encodes d just where every subword is right (all_right, right-all); whether
-- subword i is right depends on the subwords from i on (right_stays), and only one subword i is right over given
-- subwords above it (right_unique); subword i is right if it is what is carried to it plus the systematic word of its
-- data plus what is carried (right-step).
use Rattle.std.specs.Prelude.{ℕ, suc, ◌+◌, ◌-◌, ◌≤◌, ◌<◌, ◌≡◌}
use Rattle.std.proofs.Common.{sym, ◌∙◌, ap, ap₂, arith}
use Rattle.std.proofs.Math.Decide.{ℕ_discrete}
use Rattle.field.specs.Field.{𝟎, ◌⊕◌, ⊕-group, ⊕_cancel}
use Rattle.series.specs.Series.{Series, ⊞-at}
use Rattle.profile.specs.declared.Profile.{Profile}
use Rattle.profile.specs.Definition.{first-root, checks, data_length, data_start}
use Rattle.profile.specs.Valid.{Valid, checks-below}
use Rattle.code.specs.Word.{systematic}
use Rattle.code.specs.Systematic.{syndrome_cong, systematic_data, systematic-zero, systematic_unique}
use Rattle.code.specs.Definition.{syndrome_of, subword, Encodes}
use Rattle.code.specs.Block.{Agree}
use Rattle.code.specs.Triangle.{carried, corner, carried_cong, codeword_triangle, triangle-codeword}

pub record Right (p : Profile) (d s : Series) (i : ℕ) : Type 0 where
  pub carries : (q : ℕ) → q < data_length p i → subword p.length s i (checks p i + q) ≡ d (data_start p i + q)
  pub zeros : (j : ℕ) → j < checks p i → syndrome_of p (corner p s i) j ≡ 𝟎

pub all_right : (p : Profile) → Valid p → (d s : Series) → ((i : ℕ) → i < p.subwords → Right p d s i) → Encodes p d s
all_right p ok d s h =
    record { code = triangle-codeword p s ok (λ i l. (h i l).zeros); carries = λ i l. (h i l).carries }

pub right-all : (p : Profile) → Valid p → (d s : Series) → Encodes p d s → (i : ℕ) → i < p.subwords → Right p d s i
right-all p ok d s e i h = record { carries = e.carries i h; zeros = codeword_triangle p s ok e.code i h }

-- ---- two blocks

corner_cong : (p : Profile) (s t : Series) (i : ℕ) → i < p.subwords → Agree p i s t → (q : ℕ) → q < p.length
    → corner p s i q ≡ corner p t i q
corner_cong p s t i h same q l =
    ⊞-at _ _ q
    ∙ ap₂ ◌⊕◌ (same i (omega arith) h q l) (carried_cong p s t i (λ k u. same k (omega arith)) q l)
    ∙ sym (⊞-at _ _ q)

pub right_stays : (p : Profile) (d s t : Series) (i : ℕ)
    → i < p.subwords → Agree p i s t → Right p d s i → Right p d t i
right_stays p d s t i h same r = record {
  carries = λ q l. sym (same i (omega arith) h (checks p i + q) (omega arith)) ∙ r.carries q l;
  zeros = λ j l. sym (syndrome_cong (first-root p) p.length _ _ (corner_cong p s t i h same) j) ∙ r.zeros j l;
}

module _ (p : Profile) (ok : Valid p) (d s t : Series) (i : ℕ) (same : Agree p (suc i) s t) (a : Right p d s i)
    (b : Right p d t i) where
  same_data : (q : ℕ) → checks p i ≤ q → q < p.length → subword p.length s i q ≡ subword p.length t i q
  same_data q h l =
      let e : q ≡ checks p i + (q - checks p i) = omega arith in
      rw e (a.carries (q - checks p i) (omega arith) ∙ sym (b.carries (q - checks p i) (omega arith)))

  same-corner : (q : ℕ) → q < p.length → corner p s i q ≡ corner p t i q
  same-corner =
      systematic_unique (first-root p) p.length (checks p i) _ _ (omega (arith, checks-below p ok i))
      (omega (arith, checks-below p ok i))
      (λ q h l. ⊞-at _ _ q ∙ ap₂ ◌⊕◌ (same_data q h l) (carried_cong p s t i same q l) ∙ sym (⊞-at _ _ q))
      (λ j h. a.zeros j h ∙ sym (b.zeros j h))

  pub right_unique : Agree p i s t
  right_unique k h u q l = go (ℕ_discrete k i)
    where
      go : Dec (k ≡ i) → subword p.length s k q ≡ subword p.length t k q
      go (yes e) =
          rw e
          (⊕_cancel (carried p s i q)
          (sym (⊞-at _ _ q) ∙ same-corner q l ∙ ⊞-at _ _ q
          ∙ ap (λ x. subword p.length t i q ⊕ x) (sym (carried_cong p s t i same q l))))
      go (no e) = same k (omega arith) u q l

-- ---- one subword

pub right-step : (p : Profile) → Valid p → (d s c x : Series) (i : ℕ)
    → ((q : ℕ) → q < p.length → carried p s i q ≡ c q)
    → ((q : ℕ) → q < data_length p i → x (checks p i + q) ≡ d (data_start p i + q) ⊕ c (checks p i + q))
    → ((q : ℕ) → q < p.length
    → subword p.length s i q ≡ c q ⊕ systematic (first-root p) p.length (checks p i) x q)
    → Right p d s i
right-step p ok d s c x i carry given is = record {
  carries = λ q l.
      is (checks p i + q) (omega arith)
      ∙ ap (λ t. c (checks p i + q) ⊕ t)
      (systematic_data (first-root p) p.length (checks p i) x (checks p i + q) (omega arith) ∙ given q l)
      ∙ simp ⊕-group;
  zeros = λ j l.
      syndrome_cong (first-root p) p.length _ (systematic (first-root p) p.length (checks p i) x)
      (λ q r. ⊞-at _ _ q ∙ ap₂ ◌⊕◌ (is q r) (carry q r) ∙ simp ⊕-group) j
      ∙ systematic-zero (first-root p) p.length (checks p i) x (omega (arith, checks-below p ok i))
      (omega (arith, checks-below p ok i)) j l;
}
